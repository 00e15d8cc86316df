use Rattle.std.proofs.Common.{◌≡◌, drop, fold}
use Rattle.std.specs.List.{zip}
use Rattle.fx_algebra.specs.Operators as spec
use Rattle.fx_solutions.proofs.rows.inline_row.Given as goal

abbrev pub invariant-loop-i : goal.invariant-loop-i
invariant-loop-i l = fold spec.with_cell l.solution (zip (drop l.i l.columns) (drop l.i l.row)) ≡ spec.inline_row l.columns l.row
