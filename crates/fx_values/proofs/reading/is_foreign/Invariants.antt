use Rattle.std.proofs.Common.{◌≡◌, drop}
use Rattle.fx_values.specs.Sent.{is_foreign}
use Rattle.fx_values.proofs.reading.is_foreign.Given as goal

abbrev pub invariant-loop-pair : goal.invariant-loop-pair
invariant-loop-pair l = is_foreign l.columns (drop l.pair-index l.pairs) ≡ is_foreign l.columns l.pairs
