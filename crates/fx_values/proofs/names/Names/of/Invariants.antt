use Rattle.std.proofs.Common.{◌≡◌, drop, fold}
use Rattle.fx_algebra.specs.BasicGraphPatterns.{variables}
use Rattle.fx_algebra.specs.Scopes.{once, with_name}
use Rattle.fx_values.proofs.names.Names.of.Given as goal

abbrev pub invariant-loop-pattern : goal.invariant-loop-pattern
invariant-loop-pattern l = fold with_name l.names (variables (drop l.pattern-index l.patterns)) ≡ once (variables l.patterns)
