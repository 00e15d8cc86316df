-- The law is the lemma of `StepLemmas`.
use Rattle.fx_steps.proofs.StepLemmas.{steps_are_the_join}
use Rattle.fx_steps.proofs.steps_are_the_join.Goals as goal

pub returns : goal.returns
returns c = steps_are_the_join
