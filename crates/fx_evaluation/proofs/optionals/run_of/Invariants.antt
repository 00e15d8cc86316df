use Rattle.std.proofs.Common.{take, drop}
use Rattle.fx_evaluation.proofs.OptionalLemmas.{IsRunSoFar}
use Rattle.fx_evaluation.proofs.optionals.run_of.Given as goal

abbrev pub invariant-loop-element : goal.invariant-loop-element
invariant-loop-element l = IsRunSoFar l.element-items (take l.element-index l.element-items) (drop l.element-index l.element-items) l.patterns.items
