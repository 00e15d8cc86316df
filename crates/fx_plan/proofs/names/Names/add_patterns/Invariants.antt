use Rattle.std.proofs.Common.{◌≡◌, drop, fold}
use Rattle.fx_algebra.specs.BasicGraphPatterns.{variables}
use Rattle.fx_algebra.specs.Scopes.{with_name}
use Rattle.fx_plan.proofs.names.Names.add_patterns.Given as goal

-- what is left completes the names
abbrev pub invariant-loop-pattern : goal.invariant-loop-pattern
invariant-loop-pattern l = fold with_name l.self (variables (drop l.pattern-index l.patterns)) ≡ fold with_name l.initial.self (variables l.patterns)
