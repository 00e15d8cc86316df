use Rattle.std.proofs.Common.{◌≡◌, ◌-◌, map, take, drop, Some}
use Rattle.std.specs.List.{slice_get}
use Rattle.fx_store.specs.Orders.{in_order}
use Rattle.fx_store.proofs.orders.Orders.places_of.Given as goal

abbrev pub invariant-loop-place : goal.invariant-loop-place
invariant-loop-place l = map (slice_get l.self) l.places.items ≡ map Some (take (l.place - l.run.start) (drop l.run.start (in_order l.run.order l.self)))
