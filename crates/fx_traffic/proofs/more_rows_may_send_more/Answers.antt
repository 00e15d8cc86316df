-- The laws are the lemmas of `FewerLemmas`.
use Rattle.fx_traffic.proofs.FewerLemmas.{fewer_laws}
use Rattle.fx_traffic.proofs.more_rows_may_send_more.Goals as goal

pub returns : goal.returns
returns c = fewer_laws
