-- The law is the lemma of `WorthLemmas`.
use Rattle.fx_laws_operators.proofs.WorthLemmas.{made}
use Rattle.fx_laws_operators.proofs.values_are_read_back.Goals as goal

pub returns : goal.returns
returns c = made
