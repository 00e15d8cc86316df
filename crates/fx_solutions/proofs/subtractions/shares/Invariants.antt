use Rattle.std.proofs.Common.{◌≡◌, drop}
use Rattle.fx_algebra.specs.Operators as spec
use Rattle.fx_solutions.proofs.subtractions.shares.Given as goal

abbrev pub invariant-loop-pair : goal.invariant-loop-pair
invariant-loop-pair l = spec.shares (drop l.pair-index l.pair-items) l.right ≡ spec.shares l.left l.right
