use Rattle.std.proofs.Common.{◌≡◌, take}
use Rattle.fx_engine.proofs.together.copy_units.Given as goal

abbrev pub invariant-loop-unit : goal.invariant-loop-unit
invariant-loop-unit l = l.copies ≡ take l.unit-index l.units
