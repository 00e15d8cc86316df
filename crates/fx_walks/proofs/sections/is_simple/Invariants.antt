use Rattle.std.proofs.Common.{◌≡◌, drop, map}
use Rattle.std.specs.List.{list_all}
use Rattle.fx_algebra.specs.Groups.{keeps_run}
use Rattle.fx_walks.specs.SectionSteps as spec
use Rattle.fx_walks.proofs.sections.is_simple.Given as goal

abbrev pub invariant-loop-element : goal.invariant-loop-element
invariant-loop-element l = list_all keeps_run (map spec.part_of (drop l.element-index l.element-items)) ≡ list_all keeps_run (map spec.part_of l.element-items)
