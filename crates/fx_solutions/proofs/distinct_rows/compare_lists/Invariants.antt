use Rattle.std.proofs.Common.{◌≡◌, drop}
use Rattle.std.specs.Cmp.Lexicographic.{slice_cmp}
use Rattle.fx_algebra.specs.Sequences.{cell_cmp}
use Rattle.fx_solutions.proofs.distinct_rows.compare_lists.Given as goal

abbrev pub invariant-loop-cell : goal.invariant-loop-cell
invariant-loop-cell l = slice_cmp cell_cmp (drop l.cell-index l.left) l.others ≡ slice_cmp cell_cmp l.left l.right
