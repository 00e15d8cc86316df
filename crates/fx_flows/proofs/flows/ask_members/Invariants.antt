use Rattle.std.proofs.Common.{Ok, take}
use Rattle.fx_flows.specs.Flows.{AskedMembers}
use Rattle.fx_flows.proofs.flows.ask_members.Given as goal

abbrev pub invariant-loop-at : goal.invariant-loop-at
invariant-loop-at g l =
    AskedMembers g.W.Wire.counts_alone (g.W.Wire.seen l.initial.wire) (g.W.Wire.seen l.wire) l.endpoints l.forms.parts (take l.at-index l.members) (Ok l.lists.items)
