use Rattle.std.proofs.Common.{◌≡◌, take, map}
use Rattle.fx_algebra.specs.Operators as spec
use Rattle.fx_solutions.proofs.rows.inline_rows.Given as goal

abbrev pub invariant-loop-row : goal.invariant-loop-row
invariant-loop-row l = l.rows.items ≡ map (spec.inline_row l.columns) (take l.row-index l.row-items)
