use Rattle.std.proofs.Common.{◌≡◌, ◌++◌, drop, map, []}
use Rattle.fx_walks.specs.SectionSteps as spec
use Rattle.fx_walks.proofs.sections.+sections.Given as goal

abbrev pub invariant-add_group-loop-element : goal.invariant-add_group-loop-element
invariant-add_group-loop-element l =
    l.sections.items ++ spec.sections_from l.filters.items l.pending.known.items l.pending.run.items (map spec.part_of (drop l.element-index l.element-items))
    ≡ l.initial.sections.items ++ spec.sections_from l.filters.items l.before [] (map spec.part_of l.element-items)

abbrev pub invariant-add_groups-loop-group : goal.invariant-add_groups-loop-group
invariant-add_groups-loop-group l = l.sections.items ++ spec.alternatives (map spec.group_of (drop l.group-index l.groups)) ≡ l.fn.sections.items ++ spec.alternatives (map spec.group_of l.groups)
