use Rattle.std.proofs.Common.{◌≡◌, drop}
use Rattle.fx_member.specs.GraphWires.{graph_of}
use Rattle.fx_member.proofs.graph_wires.store_at.Given as goal

-- what is left decides
abbrev pub invariant-loop-pair : goal.invariant-loop-pair
invariant-loop-pair l = graph_of (drop l.pair-index l.stores) l.address ≡ graph_of l.stores l.address
