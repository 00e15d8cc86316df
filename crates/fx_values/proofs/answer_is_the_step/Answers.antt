-- The law is the lemma of `StepLemmas`.
use Rattle.fx_values.proofs.StepLemmas.{answer_is_the_step}
use Rattle.fx_values.proofs.answer_is_the_step.Goals as goal

pub returns : goal.returns
returns c = answer_is_the_step
