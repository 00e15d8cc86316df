use Rattle.std.proofs.Common.{◌≡◌, ◌++◌, take}
use Rattle.std.specs.List.{flat_map}
use Rattle.fx_outcomes.specs.Invocations.{in_element, in_group}
use Rattle.fx_outcomes.proofs.gathering.+gathering.Given as goal

-- the elements are the group's
abbrev pub invariant-gather_group-loop-element : goal.invariant-gather_group-loop-element
invariant-gather_group-loop-element l = record {
  are : l.element-items ≡ l.group.elements;
  so_far : l.found.items ≡ l.initial.found.items ++ flat_map in_element (take l.element-index l.element-items);
}

abbrev pub invariant-gather_groups-loop-group : goal.invariant-gather_groups-loop-group
invariant-gather_groups-loop-group l = l.found.items ≡ l.initial.found.items ++ flat_map in_group (take l.group-index l.groups)
