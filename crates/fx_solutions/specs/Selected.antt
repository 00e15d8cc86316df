-- How rows are told apart under columns.
use Rattle.std.specs.Prelude.{ℕ, List}
use Rattle.std.specs.declared.cmp.Ordering.{Ordering}
use Rattle.std.specs.Ordering.{on}
use Rattle.std.specs.Cmp.{IsTotalOrder}
use Rattle.std.specs.Cmp.Lexicographic.{slice_cmp}
use Rattle.std.proofs.lemmas.Cmp.{on_total, lists_total}
use Rattle.fx_algebra.specs.Solutions.{Bindings}
use Rattle.fx_algebra.specs.Sequences.{cells, cell_cmp, cells_total}
use Rattle.fx_solutions.specs.declared.distinct_rows.Cells.{Cells}

-- the terms of a row under the columns
abbrev pub cells_of : List (List ℕ) → Bindings → Cells
cells_of columns s = record { cells = cells columns s }

abbrev pub cells_cmp : Cells → Cells → Ordering
cells_cmp = on (λ c. c.cells) (slice_cmp cell_cmp)

pub all_cells_total : IsTotalOrder cells_cmp
all_cells_total = on_total (λ c. c.cells) (lists_total cells_total)
