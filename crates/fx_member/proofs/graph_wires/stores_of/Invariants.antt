use Rattle.std.proofs.Common.{◌≡◌}
use Rattle.fx_member.proofs.graph_wires.stores_of.Given as goal

abbrev pub invariant-loop-address : goal.invariant-loop-address
invariant-loop-address l = l.stores.items ≡ l.yielded
