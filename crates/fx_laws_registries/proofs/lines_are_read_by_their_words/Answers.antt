-- The law is the lemma of `LineLemmas`.
use Rattle.fx_laws_registries.proofs.LineLemmas.{lines_are_read_by_their_words}
use Rattle.fx_laws_registries.proofs.lines_are_read_by_their_words.Goals as goal

pub returns : goal.returns
returns c = lines_are_read_by_their_words
