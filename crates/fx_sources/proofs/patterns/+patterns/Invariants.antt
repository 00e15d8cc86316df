use Rattle.std.proofs.Common.{◌≡◌, ◌++◌, map, drop}
use Rattle.fx_sources.specs.Patterns as spec
use Rattle.fx_sources.proofs.patterns.+patterns.Given as goal

abbrev pub invariant-add_groups-loop-group : goal.invariant-add_groups-loop-group
invariant-add_groups-loop-group l =
    l.patterns.items ++ spec.all_of (map spec.of_group (drop l.group-index l.groups)) ≡ l.fn.patterns.items ++ spec.all_of (map spec.of_group l.groups)

abbrev pub invariant-add_group-loop-element : goal.invariant-add_group-loop-element
invariant-add_group-loop-element l =
    l.patterns.items ++ spec.all_of (map spec.of_element (drop l.element-index l.element-items)) ≡ l.initial.patterns.items ++ spec.all_of (map spec.of_element l.element-items)
