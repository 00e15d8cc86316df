use Rattle.std.proofs.Common.{◌≡◌, ◌++◌, drop}
use Rattle.std.specs.List.{flat_map}
use Rattle.fx_lines.specs.MemberLines.{left_line}
use Rattle.fx_lines.proofs.lines.push_left_lines.Given as goal

-- what is left completes the lines
abbrev pub invariant-loop-one : goal.invariant-loop-one
invariant-loop-one l = l.lines.items ++ flat_map (left_line l.endpoints) (drop l.one-index l.left) ≡ l.fn.lines.items ++ flat_map (left_line l.endpoints) l.left
