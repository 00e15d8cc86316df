use Rattle.std.proofs.Common.{◌≡◌, map}
use Rattle.fx_plan.specs.Places.{waits}
use Rattle.fx_plan.proofs.orders.all_waiting.Given as goal

abbrev pub invariant-loop-unit : goal.invariant-loop-unit
invariant-loop-unit l = l.all.items ≡ map (waits l.known) l.yielded
