use Rattle.std.proofs.Common.{◌≡◌, ◌++◌, drop}
use Rattle.fx_lines.specs.MemberLines.{left_lines}
use Rattle.fx_lines.proofs.lines.left_lines.Given as goal

-- what is left completes the lines
abbrev pub invariant-loop-round : goal.invariant-loop-round
invariant-loop-round l = l.lines.items ++ left_lines l.endpoints (drop l.round-index l.rounds) ≡ left_lines l.endpoints l.rounds
