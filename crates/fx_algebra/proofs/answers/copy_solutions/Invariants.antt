use Rattle.std.proofs.Common.{◌≡◌, take}
use Rattle.fx_algebra.proofs.answers.copy_solutions.Given as goal

abbrev pub invariant-loop-solution : goal.invariant-loop-solution
invariant-loop-solution l = l.copies ≡ take l.solution-index l.solutions
