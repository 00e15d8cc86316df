use Rattle.std.proofs.Common.{◌≡◌, ◌++◌, map, drop}
use Rattle.fx_algebra.specs.Scopes as spec
use Rattle.fx_algebra.proofs.scopes.+scope.Given as goal

abbrev pub invariant-add_groups-loop-group : goal.invariant-add_groups-loop-group
invariant-add_groups-loop-group l =
    l.names.items ++ spec.all_of (map spec.group_mentions (drop l.group-index l.groups)) ≡ l.fn.names.items ++ spec.all_of (map spec.group_mentions l.groups)

abbrev pub invariant-add_group-loop-element : goal.invariant-add_group-loop-element
invariant-add_group-loop-element l =
    l.names.items ++ spec.all_of (map spec.mentions (drop l.element-index l.element-items)) ≡ l.initial.names.items ++ spec.all_of (map spec.mentions l.element-items)
