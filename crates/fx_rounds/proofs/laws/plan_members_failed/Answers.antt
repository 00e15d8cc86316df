use Rattle.fx_rounds.proofs.PlannedLemmas as lemmas
use Rattle.fx_rounds.proofs.laws.plan_members_failed.Goals as goal

pub returns : goal.returns
returns c = lemmas.plan_members_failed
