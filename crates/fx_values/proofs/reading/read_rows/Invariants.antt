use Rattle.std.proofs.Common.{◌≡◌, drop}
use Rattle.fx_values.specs.Answers.{behind, read_rows}
use Rattle.fx_values.specs.Reading.{read_row}
use Rattle.fx_values.proofs.reading.read_rows.Given as goal

abbrev pub invariant-loop-number : goal.invariant-loop-number
invariant-loop-number l = behind l.all (read_rows (read_row l.batch.unit l.batch.places) l.number (drop l.number l.rows)) ≡ read_rows (read_row l.batch.unit l.batch.places) 0 l.rows
