-- The law is the lemma of `EventLemmas`.
use Rattle.fx_flows.proofs.EventLemmas.{flows_are_kept}
use Rattle.fx_flows.proofs.laws.flows_are_kept.Goals as goal

pub returns : goal.returns
returns c = flows_are_kept
