-- The law is the lemma of `WordLemmas`.
use Rattle.fx_renaming.proofs.WordLemmas.{bound_has_the_words}
use Rattle.fx_renaming.proofs.bound_has_the_words.Goals as goal

pub returns : goal.returns
returns c = bound_has_the_words
