-- The law is the lemma of `RuleLemmas`.
use Rattle.fx_laws_plans.proofs.RuleLemmas.{plan_goes_by_its_rules}
use Rattle.fx_laws_plans.proofs.plan_goes_by_its_rules.Goals as goal

pub returns : goal.returns
returns c = plan_goes_by_its_rules
