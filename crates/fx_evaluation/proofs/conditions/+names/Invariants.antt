use Rattle.std.proofs.Common.{◌≡◌, drop}
use Rattle.fx_evaluation.specs.Conditions as spec
use Rattle.fx_evaluation.proofs.conditions.+names.Given as goal

-- what is left decides
abbrev pub invariant-binds_all-loop-part : goal.invariant-binds_all-loop-part
invariant-binds_all-loop-part l = spec.binds_all l.row (drop l.part-index l.parts) ≡ spec.binds_all l.row l.parts

abbrev pub invariant-binds_signed-loop-part : goal.invariant-binds_signed-loop-part
invariant-binds_signed-loop-part l = spec.binds_signed l.row (drop l.part-index l.parts) ≡ spec.binds_signed l.row l.parts
