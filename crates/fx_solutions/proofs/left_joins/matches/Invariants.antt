use Rattle.std.proofs.Common.{◌≡◌, take}
use Rattle.fx_algebra.specs.Operators as spec
use Rattle.fx_solutions.proofs.left_joins.matches.Given as goal

abbrev pub invariant-loop-other : goal.invariant-loop-other
invariant-loop-other l = l.found.items ≡ spec.matches l.conditions (take l.other-index l.others) l.row
