use Rattle.std.proofs.Common.{◌≡◌, fold, []}
use Rattle.std.specs.List.{list_any}
use Rattle.std.specs.Ordering.{is_eq}
use Rattle.std.specs.BTreeSet.{contains}
use Rattle.fx_algebra.specs.Sequences.{with_row}
use Rattle.fx_solutions.specs.Ranks.{whole_rows}
use Rattle.fx_solutions.specs.Selected.{cells_of, cells_cmp}
use Rattle.fx_solutions.specs.declared.distinct_rows.Cells.{Cells}
use Rattle.fx_solutions.proofs.distinct_rows.distinct.Given as goal

abbrev pub invariant-loop-one : goal.invariant-loop-one
invariant-loop-one l = record {
  kept : whole_rows l.kept.items ≡ fold (with_row l.columns) [] (whole_rows l.yielded);
  seen : (k : Cells) → contains cells_cmp l.seen k ≡ list_any (λ r. is_eq (cells_cmp (cells_of l.columns r) k)) (whole_rows l.kept.items);
}
