use Rattle.std.proofs.Common.{◌≡◌, take}
use Rattle.fx_commands.proofs.generated.copy_members.Given as goal

-- those before it are copied
abbrev pub invariant-loop-member : goal.invariant-loop-member
invariant-loop-member l = l.copies.items ≡ take l.member-index l.members
