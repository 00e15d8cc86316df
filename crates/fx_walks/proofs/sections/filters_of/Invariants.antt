use Rattle.std.proofs.Common.{◌≡◌, ◌++◌, drop, map}
use Rattle.std.specs.List.{flat_map}
use Rattle.fx_walks.specs.SectionSteps as spec
use Rattle.fx_walks.proofs.sections.filters_of.Given as goal

abbrev pub invariant-loop-element : goal.invariant-loop-element
invariant-loop-element l =
    l.filters.items ++ flat_map spec.part_filters (map spec.part_of (drop l.element-index l.element-items)) ≡ flat_map spec.part_filters (map spec.part_of l.element-items)
