-- The law is the lemma of `AcceptLemmas`.
use Rattle.fx_values.proofs.AcceptLemmas.{values_is_accepted}
use Rattle.fx_values.proofs.values_is_accepted.Goals as goal

pub returns : goal.returns
returns c = values_is_accepted
