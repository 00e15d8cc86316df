use Rattle.std.proofs.Common.{◌≡◌, ◌++◌, take}
use Rattle.fx_evaluation.proofs.conditions.add_all.Given as goal

abbrev pub invariant-loop-part : goal.invariant-loop-part
invariant-loop-part l = l.parts.items ≡ l.initial.parts.items ++ take l.part-index l.more
