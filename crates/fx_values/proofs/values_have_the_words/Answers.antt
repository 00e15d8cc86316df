-- The law is the lemma of `AcceptLemmas`.
use Rattle.fx_values.proofs.AcceptLemmas.{values_have_the_words}
use Rattle.fx_values.proofs.values_have_the_words.Goals as goal

pub returns : goal.returns
returns c = values_have_the_words
