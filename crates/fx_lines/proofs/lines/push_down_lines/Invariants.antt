use Rattle.std.proofs.Common.{◌≡◌, ◌++◌, drop}
use Rattle.fx_lines.specs.MemberLines.{down_lines}
use Rattle.fx_lines.proofs.lines.push_down_lines.Given as goal

-- what is left completes the lines
abbrev pub invariant-loop-one : goal.invariant-loop-one
invariant-loop-one l = l.lines.items ++ down_lines (drop l.one-index l.down) ≡ l.fn.lines.items ++ down_lines l.down
