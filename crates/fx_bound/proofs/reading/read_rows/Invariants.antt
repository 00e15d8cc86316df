use Rattle.std.proofs.Common.{◌≡◌, drop}
use Rattle.fx_bound.specs.Answers.{behind, read_rows}
use Rattle.fx_bound.specs.Parts.{places}
use Rattle.fx_bound.specs.Reading.{read_row}
use Rattle.fx_bound.proofs.reading.read_rows.Given as goal

abbrev pub invariant-loop-number : goal.invariant-loop-number
invariant-loop-number l = behind l.founds (read_rows (read_row l.batch.unit (places l.batch)) l.number (drop l.number l.rows)) ≡ read_rows (read_row l.batch.unit (places l.batch)) 0 l.rows
