use Rattle.std.proofs.Common.{◌≡◌, drop}
use Rattle.fx_algebra.specs.OrderedRows as spec
use Rattle.fx_solutions.proofs.ranked_rows.compare_all_keys.Given as goal

abbrev pub invariant-loop-order : goal.invariant-loop-order
invariant-loop-order l = spec.keys_cmp (drop l.order-index l.orders) l.left l.right ≡ spec.keys_cmp l.orders l.initial.left l.initial.right
