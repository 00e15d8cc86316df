use Rattle.std.proofs.Common.{◌≡◌, ◌++◌, drop, map}
use Rattle.std.specs.List.{flat_map}
use Rattle.fx_bound_cases.specs.LoneRuns as spec
use Rattle.fx_bound_cases.proofs.runs.filters_of.Given as goal

abbrev pub invariant-loop-element : goal.invariant-loop-element
invariant-loop-element l = l.filters ++ flat_map spec.part_filters (map spec.part_of (drop l.element-index l.elements)) ≡ flat_map spec.part_filters (map spec.part_of l.elements)
