use Rattle.std.proofs.Common.{take}
use Rattle.fx_values.specs.Parts.{AreKnown}
use Rattle.fx_values.proofs.batches.known_rows.Given as goal

abbrev pub invariant-loop-row : goal.invariant-loop-row
invariant-loop-row l = AreKnown (take l.row-index l.rows)
