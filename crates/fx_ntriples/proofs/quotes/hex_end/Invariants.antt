use Rattle.std.proofs.Common.{◌≡◌, ◌-◌, ◌+◌, ◌≤◌, length, take, drop}
use Rattle.std.specs.List.{prefix_len}
use Rattle.std.specs.Char.{is_ascii_hexdigit}
use Rattle.fx_ntriples.proofs.quotes.hex_end.Given as goal

abbrev pub invariant-loop-end : goal.invariant-loop-end
invariant-loop-end l =
    (l.start ≤ l.end) × (l.end ≤ length l.line) × (l.end ≤ l.start + l.count)
    × (l.end + prefix_len is_ascii_hexdigit (take (l.count - (l.end - l.start)) (drop l.end l.line)) ≡ l.start + prefix_len is_ascii_hexdigit (take l.count (drop l.start l.line)))

abbrev pub decreases-loop-end : goal.decreases-loop-end
decreases-loop-end l = length l.line - l.end
