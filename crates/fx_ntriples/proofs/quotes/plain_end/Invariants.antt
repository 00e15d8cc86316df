use Rattle.std.proofs.Common.{◌≡◌, ◌-◌, ◌+◌, ◌≤◌, length, drop}
use Rattle.std.specs.List.{prefix_len}
use Rattle.fx_ntriples.specs.Quotes as spec
use Rattle.fx_ntriples.proofs.quotes.plain_end.Given as goal

abbrev pub invariant-loop-end : goal.invariant-loop-end
invariant-loop-end l = (l.end ≤ length l.line) × (l.end + prefix_len (spec.is_plain l.quote) (drop l.end l.line) ≡ l.from + prefix_len (spec.is_plain l.quote) (drop l.from l.line))

abbrev pub decreases-loop-end : goal.decreases-loop-end
decreases-loop-end l = length l.line - l.end
