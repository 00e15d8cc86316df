-- The law is the lemma of `OnlyLemmas`.
use Rattle.fx_laws_plans.proofs.OnlyLemmas.{only_the_plan_goes_by_them}
use Rattle.fx_laws_plans.proofs.only_the_plan_goes_by_them.Goals as goal

pub returns : goal.returns
returns c = only_the_plan_goes_by_them
