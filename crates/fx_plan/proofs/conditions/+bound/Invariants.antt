use Rattle.std.proofs.Common.{◌≡◌, drop}
use Rattle.fx_plan.specs.Conditions as spec
use Rattle.fx_plan.proofs.conditions.+bound.Given as goal

-- what is left decides
abbrev pub invariant-call_bound-loop-part : goal.invariant-call_bound-loop-part
invariant-call_bound-loop-part l = spec.call_bound (drop l.part-index l.parts) ≡ spec.call_bound l.parts

abbrev pub invariant-signed_call_bound-loop-part : goal.invariant-signed_call_bound-loop-part
invariant-signed_call_bound-loop-part l = spec.signed_call_bound (drop l.part-index l.parts) ≡ spec.signed_call_bound l.parts
