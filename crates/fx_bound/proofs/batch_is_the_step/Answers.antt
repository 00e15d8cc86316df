-- The law is the lemma of `BatchLemmas`.
use Rattle.fx_bound.proofs.BatchLemmas.{batch_is_the_step}
use Rattle.fx_bound.proofs.batch_is_the_step.Goals as goal

pub returns : goal.returns
returns c = batch_is_the_step
