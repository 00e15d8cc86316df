use Rattle.fx_plan.proofs.LawLemmas as lemmas
use Rattle.fx_plan.proofs.laws.units_are_of_the_run.Goals as goal

pub returns : goal.returns
returns c = lemmas.units_are_of_the_run
