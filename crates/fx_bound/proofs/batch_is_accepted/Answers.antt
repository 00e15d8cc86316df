-- The law is the lemma of `AcceptLemmas`.
use Rattle.fx_bound.proofs.AcceptLemmas.{batch_is_accepted}
use Rattle.fx_bound.proofs.batch_is_accepted.Goals as goal

pub returns : goal.returns
returns c = batch_is_accepted
