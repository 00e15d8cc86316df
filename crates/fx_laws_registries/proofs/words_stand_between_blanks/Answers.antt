-- The law is the lemma of `WordLemmas`.
use Rattle.fx_laws_registries.proofs.WordLemmas.{words_stand_between_blanks}
use Rattle.fx_laws_registries.proofs.words_stand_between_blanks.Goals as goal

pub returns : goal.returns
returns c = words_stand_between_blanks
