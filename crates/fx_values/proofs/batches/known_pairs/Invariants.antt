use Rattle.std.proofs.Common.{take}
use Rattle.fx_values.specs.Texts.{HasTerms}
use Rattle.fx_values.proofs.batches.known_pairs.Given as goal

abbrev pub invariant-loop-pair : goal.invariant-loop-pair
invariant-loop-pair l = HasTerms (take l.pair-index l.pairs)
