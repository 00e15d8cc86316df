use Rattle.std.proofs.Common.{◌<◌, ◌≤◌, All, List, length, take}
use Rattle.fx_algebra.specs.declared.units.Unit.{Unit as UnitParts}
use Rattle.fx_side_by_side.proofs.steps.longest.Given as goal

abbrev pub invariant-loop-units : goal.invariant-loop-units
invariant-loop-units l = record {
  longest : All (λ (units : List UnitParts). length units ≤ l.most) (take l.units-index l.runs);
  some : 0 < l.most → 0 < length l.runs;
}
