use Rattle.fx_rounds.proofs.PlannedLemmas as lemmas
use Rattle.fx_rounds.proofs.laws.plans_rest_on_this.Goals as goal

pub returns : goal.returns
returns c = lemmas.plans_rest_on_this
