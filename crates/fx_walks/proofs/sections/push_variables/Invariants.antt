use Rattle.std.proofs.Common.{◌≡◌, ◌++◌, drop}
use Rattle.fx_algebra.specs.BasicGraphPatterns.{variables}
use Rattle.fx_walks.proofs.sections.push_variables.Given as goal

abbrev pub invariant-loop-pattern : goal.invariant-loop-pattern
invariant-loop-pattern l = l.names.items ++ variables (drop l.pattern-index l.patterns) ≡ l.fn.names.items ++ variables l.patterns
