use Rattle.std.proofs.Common.{◌≡◌, ◌+◌, take}
use Rattle.std.specs.List.{filter_map, slice_get}
use Rattle.fx_algebra.specs.BasicGraphPatterns.{parts_of, forced}
use Rattle.fx_store.proofs.evaluation.rows_at.Given as goal

abbrev pub invariant-loop-place : goal.invariant-loop-place
invariant-loop-place g l = record {
  rows : l.rows.items ≡ filter_map (λ t. forced l.row (parts_of l.pattern t)) (filter_map (slice_get l.orders) (take l.place-index l.places));
  steps : l.steps ≡ l.fn.steps + l.place-index;
}
