-- The laws are the lemmas of `SentLemmas`.
use Rattle.fx_traffic.proofs.SentLemmas.{sent_laws}
use Rattle.fx_traffic.proofs.sent_adds_up.Goals as goal

pub returns : goal.returns
returns c = sent_laws
