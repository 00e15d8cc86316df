use Rattle.std.proofs.Common.{◌≡◌, drop}
use Rattle.fx_bound.specs.Sent.{has_foreign}
use Rattle.fx_bound.proofs.reading.has_foreign.Given as goal

abbrev pub invariant-loop-pair : goal.invariant-loop-pair
invariant-loop-pair l = has_foreign l.branches (drop l.pair-index l.pairs) ≡ has_foreign l.branches l.pairs
