use Rattle.std.proofs.Common.{◌≡◌, ◌++◌, drop, string_bytes, if◌then◌else◌}
use Rattle.fx_plan.specs.Explained as spec
use Rattle.fx_plan.proofs.parts.push_members.Given as goal

-- what is left completes the text
abbrev pub invariant-loop-member : goal.invariant-loop-member
invariant-loop-member l =
    string_bytes l.text
    ++ (if l.is_first then spec.member_names l.endpoints (drop l.member-index l.members) else spec.more_names l.endpoints (drop l.member-index l.members))
    ≡ string_bytes l.initial.text ++ spec.member_names l.endpoints l.members
