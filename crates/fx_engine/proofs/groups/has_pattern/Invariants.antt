use Rattle.std.proofs.Common.{◌≡◌, drop, map}
use Rattle.std.specs.List.{flat_map}
use Rattle.fx_walks.specs.GroupsAsked.{is_run}
use Rattle.fx_walks.specs.SectionSteps.{part_of, part_patterns}
use Rattle.fx_engine.proofs.groups.has_pattern.Given as goal

abbrev pub invariant-loop-element : goal.invariant-loop-element
invariant-loop-element l = is_run (flat_map part_patterns (map part_of (drop l.element-index l.element-items))) ≡ is_run (flat_map part_patterns (map part_of l.element-items))
