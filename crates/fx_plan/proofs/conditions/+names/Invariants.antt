use Rattle.std.proofs.Common.{◌≡◌, drop}
use Rattle.fx_plan.specs.Conditions as spec
use Rattle.fx_plan.proofs.conditions.+names.Given as goal

-- what is left decides
abbrev pub invariant-has_all_of-loop-part : goal.invariant-has_all_of-loop-part
invariant-has_all_of-loop-part l = spec.have_names l.names (drop l.part-index l.parts) ≡ spec.have_names l.names l.parts

abbrev pub invariant-has_all_signed-loop-part : goal.invariant-has_all_signed-loop-part
invariant-has_all_signed-loop-part l = spec.signed_have_names l.names (drop l.part-index l.parts) ≡ spec.signed_have_names l.names l.parts
