use Rattle.std.proofs.Common.{◌≡◌, ◌++◌, map, drop}
use Rattle.fx_algebra.specs.Occurrences as spec
use Rattle.fx_algebra.proofs.occurrences.+services.Given as goal

abbrev pub invariant-add_groups-loop-group : goal.invariant-add_groups-loop-group
invariant-add_groups-loop-group l =
    l.occurrences.items ++ spec.all_of (map spec.of_group (drop l.group-index l.groups)) ≡ l.fn.occurrences.items ++ spec.all_of (map spec.of_group l.groups)

abbrev pub invariant-add_group-loop-element : goal.invariant-add_group-loop-element
invariant-add_group-loop-element l =
    l.occurrences.items ++ spec.all_of (map spec.of_element (drop l.element-index l.element-items)) ≡ l.initial.occurrences.items ++ spec.all_of (map spec.of_element l.element-items)
