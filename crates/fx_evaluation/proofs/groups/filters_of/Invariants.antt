use Rattle.std.proofs.Common.{take}
use Rattle.fx_evaluation.proofs.GroupLemmas.{AreFiltersSoFar}
use Rattle.fx_evaluation.proofs.groups.filters_of.Given as goal

abbrev pub invariant-loop-element : goal.invariant-loop-element
invariant-loop-element l = AreFiltersSoFar (take l.element-index l.element-items) l.filters.items
