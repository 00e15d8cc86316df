use Rattle.std.proofs.Common.{◌≡◌, ◌-◌, ◌+◌, ◌≤◌, true, false, length}
use Rattle.std.specs.List.{AllWithin}
use Rattle.fx_store.specs.Lookups.{stands_in_front, binary_digits}
use Rattle.fx_store.specs.Orders.{in_order}
use Rattle.fx_store.proofs.lookups.search.Given as goal

abbrev pub invariant-loop-low : goal.invariant-loop-low
invariant-loop-low g l = record {
  rises : l.low ≤ l.high;
  ends : l.high ≤ length l.orders;
  below : AllWithin (λ t. stands_in_front l.order l.sought l.end t ≡ true) (in_order l.order l.orders) 0 l.low;
  above : AllWithin (λ t. stands_in_front l.order l.sought l.end t ≡ false) (in_order l.order l.orders) l.high (length (in_order l.order l.orders));
  steps : l.steps + binary_digits (l.high - l.low) ≤ l.fn.steps + binary_digits (length l.orders);
}

abbrev pub decreases-loop-low : goal.decreases-loop-low
decreases-loop-low g l = l.high - l.low
