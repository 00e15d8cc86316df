-- The law is the lemma of `PlanLemmas`.
use Rattle.fx_steps.proofs.PlanLemmas.{plan_is_of_the_run}
use Rattle.fx_steps.proofs.plan_is_of_the_run.Goals as goal

pub returns : goal.returns
returns c = plan_is_of_the_run
