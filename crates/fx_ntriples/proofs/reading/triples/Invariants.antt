use Rattle.std.proofs.Common.{◌≡◌, ◌+◌, ◌-◌, length, drop}
use Rattle.std.specs.List.{slice_split}
use Rattle.std.specs.Str.{IsCharBoundary}
use Rattle.fx_ntriples.specs.Reading.{is_line_end, read_lines}
use Rattle.fx_ntriples.proofs.LineSteps.{behind}
use Rattle.fx_ntriples.proofs.reading.triples.Given as goal

abbrev pub invariant-lines : goal.invariant-lines
invariant-lines l =
    IsCharBoundary l.text l.start
    × (behind l.triples.items (read_lines l.start (slice_split is_line_end (drop l.start l.text))) ≡ read_lines 0 (slice_split is_line_end l.text))

abbrev pub decreases-lines : goal.decreases-lines
decreases-lines l = length l.text + 1 - l.start
