use Rattle.fx_rounds.proofs.PlannedLemmas as lemmas
use Rattle.fx_rounds.proofs.laws.plans_count_none.Goals as goal

pub returns : goal.returns
returns c = lemmas.plans_count_none
