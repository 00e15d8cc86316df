use Rattle.std.proofs.Common.{◌≡◌, take}
use Rattle.fx_algebra.specs.Sequences.{cells}
use Rattle.fx_solutions.proofs.distinct_rows.cells_of.Given as goal

abbrev pub invariant-loop-column : goal.invariant-loop-column
invariant-loop-column l = l.cells ≡ cells (take l.column-index l.columns) l.row
