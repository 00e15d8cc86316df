-- The law is the lemma of `FewerLemmas`.
use Rattle.fx_steps.proofs.FewerLemmas.{filters_hold_at_the_end}
use Rattle.fx_steps.proofs.filters_hold_at_the_end.Goals as goal

pub returns : goal.returns
returns c = filters_hold_at_the_end
