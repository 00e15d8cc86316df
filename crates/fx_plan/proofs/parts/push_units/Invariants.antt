use Rattle.std.proofs.Common.{◌≡◌, ◌++◌, drop, string_bytes}
use Rattle.fx_plan.specs.Explained as spec
use Rattle.fx_plan.proofs.parts.push_units.Given as goal

-- what is left completes the text
abbrev pub invariant-loop-unit : goal.invariant-loop-unit
invariant-loop-unit l =
    string_bytes l.text ++ spec.unit_texts l.endpoints l.known (drop l.unit-index l.units)
    ≡ string_bytes l.initial.text ++ spec.unit_texts l.endpoints l.bound l.units
