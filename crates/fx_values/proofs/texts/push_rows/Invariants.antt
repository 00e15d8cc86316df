use Rattle.std.proofs.Common.{◌≡◌, ◌++◌, take, string_bytes}
use Rattle.fx_algebra.specs.Printed.{spaced}
use Rattle.fx_values.specs.Sent.{rows_words}
use Rattle.fx_values.proofs.texts.push_rows.Given as goal

abbrev pub invariant-loop-row : goal.invariant-loop-row
invariant-loop-row l = string_bytes l.text ≡ string_bytes l.initial.text ++ spaced (rows_words l.names (take l.row-index l.rows))
