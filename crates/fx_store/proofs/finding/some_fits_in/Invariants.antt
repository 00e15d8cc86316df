use Rattle.std.proofs.Common.{◌≡◌, ◌+◌, ◌-◌, [], take, drop}
use Rattle.std.specs.List.{filter_map}
use Rattle.fx_algebra.specs.BasicGraphPatterns.{parts_of, forced}
use Rattle.fx_store.specs.Orders.{in_order}
use Rattle.fx_store.proofs.finding.some_fits_in.Given as goal

-- none so far fits
abbrev pub invariant-loop-place : goal.invariant-loop-place
invariant-loop-place g l = record {
  none : filter_map (λ t. forced l.row (parts_of l.pattern t)) (take (l.place - l.run.start) (drop l.run.start (in_order l.run.order l.orders))) ≡ [];
  steps : l.steps ≡ l.fn.steps + (l.place - l.run.start);
}
