use Rattle.std.proofs.Common.{◌≡◌, ◌-◌, ◌≤◌, length, drop}
use Rattle.fx_ntriples.specs.Reading as spec
use Rattle.fx_ntriples.proofs.lines.blanks_end.Given as goal

abbrev pub invariant-loop-end : goal.invariant-loop-end
invariant-loop-end l = (l.end ≤ length l.line) × (spec.unblanked (drop l.end l.line) ≡ spec.unblanked (drop l.fn.from l.line))

abbrev pub decreases-loop-end : goal.decreases-loop-end
decreases-loop-end l = length l.line - l.end
