-- The law is the lemma of `KeyLemmas`.
use Rattle.fx_sources.proofs.KeyLemmas.{key_fits}
use Rattle.fx_sources.proofs.laws.key_fits_alike.Goals as goal

pub returns : goal.returns
returns c = key_fits
