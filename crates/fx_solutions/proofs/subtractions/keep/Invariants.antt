use Rattle.std.proofs.Common.{◌≡◌}
use Rattle.fx_solutions.specs.Joins.{kept}
use Rattle.fx_solutions.proofs.subtractions.keep.Given as goal

abbrev pub invariant-loop-row : goal.invariant-loop-row
invariant-loop-row l = l.rows.items ≡ kept l.shared l.index l.yielded
