use Rattle.std.proofs.Common.{◌≡◌, take}
use Rattle.fx_algebra.proofs.queries.+copy.Given as goal

abbrev pub invariant-copy_elements-loop-element : goal.invariant-copy_elements-loop-element
invariant-copy_elements-loop-element l = l.copies ≡ take l.element-index l.elements

abbrev pub invariant-copy_groups-loop-group : goal.invariant-copy_groups-loop-group
invariant-copy_groups-loop-group l = l.copies ≡ take l.group-index l.groups
