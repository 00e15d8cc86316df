use Rattle.std.proofs.Common.{take}
use Rattle.fx_evaluation.specs.Conditions.{AreAsStrict}
use Rattle.fx_evaluation.proofs.conditions.conjuncts.Given as goal

abbrev pub invariant-loop-filter : goal.invariant-loop-filter
invariant-loop-filter l = AreAsStrict l.parts.items (take l.filter-index l.filters)
