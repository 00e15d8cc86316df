use Rattle.std.proofs.Common.{◌≡◌, ◌+◌, ◌-◌, ◌≤◌, length, drop}
use Rattle.std.specs.List.{position_or_len}
use Rattle.fx_ntriples.specs.Reading.{is_line_end}
use Rattle.fx_ntriples.proofs.reading.line_end.Given as goal

abbrev pub invariant-loop-end : goal.invariant-loop-end
invariant-loop-end l = (l.end ≤ length l.bytes) × (l.end + position_or_len is_line_end (drop l.end l.bytes) ≡ l.start + position_or_len is_line_end (drop l.start l.bytes))

abbrev pub decreases-loop-end : goal.decreases-loop-end
decreases-loop-end l = length l.bytes - l.end
