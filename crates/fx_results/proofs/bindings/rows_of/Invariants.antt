use Rattle.std.proofs.Common.{◌≡◌, ◌++◌}
use Rattle.serde_json.specs.View.{items_view}
use Rattle.fx_results.specs.Reading.{rows_in}
use Rattle.fx_results.proofs.ReadingLemmas.{behind}
use Rattle.fx_results.proofs.bindings.rows_of.Given as goal

-- what is left completes the rows
abbrev pub invariant-loop-item : goal.invariant-loop-item
invariant-loop-item l = record {
  whole : l.yielded ++ l.item-iterator.rest.items ≡ l.fn.items.items;
  left : behind l.rows.items (rows_in l.columns (items_view l.item-iterator.rest.items)) ≡ rows_in l.columns (items_view l.fn.items.items);
}
