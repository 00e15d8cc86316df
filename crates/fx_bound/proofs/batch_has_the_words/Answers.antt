-- The law is the lemma of `AcceptLemmas`.
use Rattle.fx_bound.proofs.AcceptLemmas.{batch_has_the_words}
use Rattle.fx_bound.proofs.batch_has_the_words.Goals as goal

pub returns : goal.returns
returns c = batch_has_the_words
