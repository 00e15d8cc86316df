-- The law is the lemma of `UniteLemmas`.
use Rattle.fx_founds.proofs.UniteLemmas.{united_is_the_step}
use Rattle.fx_founds.proofs.united_is_the_step.Goals as goal

pub returns : goal.returns
returns c = united_is_the_step
