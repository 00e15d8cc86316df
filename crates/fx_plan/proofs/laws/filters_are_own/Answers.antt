use Rattle.fx_plan.proofs.LawLemmas as lemmas
use Rattle.fx_plan.proofs.laws.filters_are_own.Goals as goal

pub returns : goal.returns
returns c = lemmas.filters_are_own
