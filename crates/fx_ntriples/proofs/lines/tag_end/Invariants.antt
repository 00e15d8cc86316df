use Rattle.std.proofs.Common.{◌≡◌, ◌-◌, ◌+◌, true, length, drop}
use Rattle.std.specs.Str.{IsCharBoundary}
use Rattle.fx_ntriples.specs.Reading as spec
use Rattle.fx_ntriples.proofs.lines.tag_end.Given as goal

abbrev pub invariant-loop-end : goal.invariant-loop-end
invariant-loop-end l = IsCharBoundary l.line l.end × (l.end + spec.tag_len l.is_first l.is_empty (drop l.end l.line) ≡ l.fn.at + spec.tag_len true true (drop l.fn.at l.line))

abbrev pub decreases-loop-end : goal.decreases-loop-end
decreases-loop-end l = length l.line - l.end
