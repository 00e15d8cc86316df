-- The law is the lemma of `GroupLemmas`.
use Rattle.fx_steps.proofs.GroupLemmas.{plan_comes_out}
use Rattle.fx_steps.proofs.plan_comes_out.Goals as goal

pub returns : goal.returns
returns c = plan_comes_out
