use Rattle.std.proofs.Common.{◌≡◌, drop}
use Rattle.fx_evaluation.specs.FirstHere.{first_false}
use Rattle.fx_evaluation.proofs.places.first_false.Given as goal

-- what is left decides
abbrev pub invariant-loop-i : goal.invariant-loop-i
invariant-loop-i l = first_false l.i (drop l.i l.marks) ≡ first_false 0 l.marks
