use Rattle.fx_rounds.proofs.PlannedLemmas as lemmas
use Rattle.fx_rounds.proofs.laws.no_plan_service_fails.Goals as goal

pub returns : goal.returns
returns c = lemmas.no_plan_service_fails
