use Rattle.std.proofs.Common.{◌≡◌, map, take}
use Rattle.fx_bound.proofs.reading.is_in_order.Given as goal

abbrev pub invariant-loop-i : goal.invariant-loop-i
invariant-loop-i l = map (λ e. e.0) (take l.i l.pairs) ≡ map (λ e. e.0) (take l.i l.names)
