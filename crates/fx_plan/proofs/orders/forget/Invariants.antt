use Rattle.std.proofs.Common.{◌≡◌, ◌++◌, map, take, drop}
use Rattle.fx_plan.specs.Places.{without}
use Rattle.fx_plan.proofs.orders.forget.Given as goal

abbrev pub invariant-loop-one : goal.invariant-loop-one
invariant-loop-one l = l.one-items ≡ map (without l.names) (take l.one-index l.initial.one-items) ++ drop l.one-index l.initial.one-items
