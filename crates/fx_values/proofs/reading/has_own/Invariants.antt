use Rattle.std.proofs.Common.{◌≡◌, drop}
use Rattle.fx_values.specs.Sent.{has_own}
use Rattle.fx_values.proofs.reading.has_own.Given as goal

abbrev pub invariant-loop-pair : goal.invariant-loop-pair
invariant-loop-pair l = has_own (drop l.pair-index l.pairs) l.own l.row ≡ has_own l.pairs l.own l.row
