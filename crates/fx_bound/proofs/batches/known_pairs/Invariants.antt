use Rattle.std.proofs.Common.{take}
use Rattle.fx_bound.specs.Texts.{HasTerms}
use Rattle.fx_bound.proofs.batches.known_pairs.Given as goal

abbrev pub invariant-loop-pair : goal.invariant-loop-pair
invariant-loop-pair l = HasTerms (take l.pair-index l.pairs)
