-- The law is the lemma of `KeptLemmas`.
use Rattle.fx_sources.proofs.KeptLemmas.{chooses_kept}
use Rattle.fx_sources.proofs.laws.chooses_kept_sources.Goals as goal

pub returns : goal.returns
returns c = chooses_kept
