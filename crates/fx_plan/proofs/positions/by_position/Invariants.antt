use Rattle.std.proofs.Common.{◌≡◌, take}
use Rattle.std.specs.List.{zip}
use Rattle.fx_plan.specs.Places.{Knows}
use Rattle.fx_plan.specs.Plans as spec
use Rattle.fx_plan.proofs.positions.by_position.Given as goal

abbrev pub invariant-loop-i : goal.invariant-loop-i
invariant-loop-i l = record {
  units : l.units.items ≡ spec.by_position (take l.i (zip l.run l.sources));
  knows : Knows l.groups l.units.items;
}
