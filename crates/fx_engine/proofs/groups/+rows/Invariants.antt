use Rattle.std.proofs.Common.{Ok, map, drop, ◌≡◌}
use Rattle.fx_engine.specs.Asked.{Asked}
use Rattle.fx_walks.specs.GroupsAsked.{AlternativesDue, GroupDue}
use Rattle.fx_engine.proofs.AlternativesLemmas as groups
use Rattle.fx_engine.proofs.WalkLemmas as walk
use Rattle.fx_engine.proofs.groups.+rows.Given as goal

abbrev pub invariant-alternatives-loop-group : goal.invariant-alternatives-loop-group
invariant-alternatives-loop-group g l =
    Asked g.W.Wire.tells_log g.W.Wire.counts_alone (map g.W.Wire.seen l.initial.wires) (map g.W.Wire.seen l.wires) l.walk.endpoints.now l.walk.tasks.now l.walk.block (groups.SoFar l.walk.endpoints.now l.walk.block l.walk.tasks.now l.initial.next l.groups l.next (drop l.group-index l.groups)) (AlternativesDue l.walk.endpoints.now l.walk.block l.walk.tasks.now l.initial.next l.groups) (Ok l.rows.items)

-- the elements are the group's
abbrev pub invariant-unfiltered-loop-element : goal.invariant-unfiltered-loop-element
invariant-unfiltered-loop-element g l = record {
  are : l.element-items ≡ l.group.elements;
  asked : (are : l.element-items ≡ l.group.elements) → Asked g.W.Wire.tells_log g.W.Wire.counts_alone (map g.W.Wire.seen l.initial.wires) (map g.W.Wire.seen l.wires) l.walk.endpoints.now l.walk.tasks.now l.walk.block (walk.SoFar l.walk.endpoints.now l.walk.block l.walk.tasks.now l.initial.next l.group l.element-items are l.next l.in_run (drop l.element-index l.element-items)) (GroupDue l.walk.endpoints.now l.walk.block l.walk.tasks.now l.initial.next l.group) (Ok l.rows.items);
}
