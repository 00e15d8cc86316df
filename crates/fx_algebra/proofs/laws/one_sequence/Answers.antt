-- The law is the lemma of `SequenceLemmas`.
use Rattle.fx_algebra.proofs.SequenceLemmas.{one_sequence_holds}
use Rattle.fx_algebra.proofs.laws.one_sequence.Goals as goal

pub returns : goal.returns
returns c = one_sequence_holds
