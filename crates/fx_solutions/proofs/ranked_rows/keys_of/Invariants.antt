use Rattle.std.proofs.Common.{◌≡◌, map, take}
use Rattle.fx_algebra.specs.OrderedRows as spec
use Rattle.fx_solutions.proofs.ranked_rows.keys_of.Given as goal

abbrev pub invariant-loop-order : goal.invariant-loop-order
invariant-loop-order l = l.keys ≡ map (spec.key_of l.row) (take l.order-index l.orders)
