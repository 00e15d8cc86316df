use Rattle.std.proofs.Common.{◌≡◌, drop}
use Rattle.fx_algebra.specs.Sequences.{row_cmp}
use Rattle.fx_solutions.proofs.sequences.compare_rows.Given as goal

-- what is left decides
abbrev pub invariant-loop-column : goal.invariant-loop-column
invariant-loop-column l = row_cmp (drop l.column-index l.columns) l.left l.right ≡ row_cmp l.columns l.left l.right
