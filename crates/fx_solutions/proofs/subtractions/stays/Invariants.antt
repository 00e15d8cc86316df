use Rattle.std.proofs.Common.{◌≡◌, drop}
use Rattle.fx_algebra.specs.Operators as spec
use Rattle.fx_solutions.proofs.subtractions.stays.Given as goal

abbrev pub invariant-loop-other : goal.invariant-loop-other
invariant-loop-other l = spec.stays (drop l.other-index l.others) l.row ≡ spec.stays l.others l.row
