use Rattle.std.proofs.Common.{◌≡◌, ◌+◌, ◌≤◌, drop}
use Rattle.fx_ntriples.specs.Places.{line_ends}
use Rattle.fx_ntriples.proofs.reading.count_line_ends.Given as goal

abbrev pub invariant-loop-i : goal.invariant-loop-i
invariant-loop-i l = (l.count ≤ l.i) × (l.count + line_ends (drop l.i l.bytes) ≡ line_ends l.bytes)
