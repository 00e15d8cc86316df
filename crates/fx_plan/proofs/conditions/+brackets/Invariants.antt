use Rattle.std.proofs.Common.{◌≡◌, drop}
use Rattle.std.specs.Prelude.{nat_le}
use Rattle.fx_plan.specs.Conditions as spec
use Rattle.fx_plan.proofs.conditions.+brackets.Given as goal

-- what is left decides
abbrev pub invariant-fit-loop-part : goal.invariant-fit-loop-part
invariant-fit-loop-part l = nat_le (spec.most_of l.place (drop l.part-index l.parts)) l.room ≡ nat_le (spec.most_of l.place l.parts) l.room

abbrev pub invariant-signed_fit-loop-part : goal.invariant-signed_fit-loop-part
invariant-signed_fit-loop-part l = nat_le (spec.most_of_signed (drop l.part-index l.parts)) l.room ≡ nat_le (spec.most_of_signed l.parts) l.room
