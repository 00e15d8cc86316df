use Rattle.std.proofs.Common.{◌≡◌, drop, true}
use Rattle.serde_json.specs.View.{items_view}
use Rattle.fx_results.specs.Columns.{IsIndex}
use Rattle.fx_results.specs.Reading.{names_in, are_distinct, columns_of}
use Rattle.fx_results.proofs.ColumnLemmas.{once_behind}
use Rattle.fx_results.proofs.columns.Columns.read.Given as goal

-- the names so far are distinct and found, and what is left completes them
abbrev pub invariant-loop-item : goal.invariant-loop-item
invariant-loop-item l = record {
  index : IsIndex l.index.entries l.names.items;
  distinct : are_distinct l.names.items ≡ true;
  left : once_behind l.names.items (names_in (items_view (drop l.item-index l.items))) ≡ columns_of (items_view l.items);
}
