use Rattle.std.proofs.Common.{◌≡◌, drop}
use Rattle.fx_values.specs.Sent.{with_told}
use Rattle.fx_values.proofs.tellings.told_pairs.Given as goal

abbrev pub invariant-loop-pair : goal.invariant-loop-pair
invariant-loop-pair l = with_told (drop l.pair-index l.sent) l.pairs.items l.told ≡ with_told l.sent l.row l.told
