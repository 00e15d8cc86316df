-- The law is the lemma of `StepLemmas`.
use Rattle.fx_steps.proofs.StepLemmas.{plan_is_the_join}
use Rattle.fx_steps.proofs.plan_is_the_join.Goals as goal

pub returns : goal.returns
returns c = plan_is_the_join
