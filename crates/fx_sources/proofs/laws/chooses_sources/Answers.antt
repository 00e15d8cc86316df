-- The law is the lemma of `SourceLemmas`.
use Rattle.fx_sources.proofs.SourceLemmas.{chooses}
use Rattle.fx_sources.proofs.laws.chooses_sources.Goals as goal

pub returns : goal.returns
returns c = chooses
