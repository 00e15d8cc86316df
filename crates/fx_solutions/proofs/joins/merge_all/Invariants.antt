use Rattle.std.proofs.Common.{◌≡◌, take}
use Rattle.fx_solutions.specs.Joins.{merged}
use Rattle.fx_solutions.proofs.joins.merge_all.Given as goal

abbrev pub invariant-loop-row : goal.invariant-loop-row
invariant-loop-row l = l.rows.items ≡ merged l.shared l.index (take l.row-index l.left)
