use Rattle.fx_plan.proofs.LawLemmas as lemmas
use Rattle.fx_plan.proofs.laws.no_source_is_left_out.Goals as goal

pub returns : goal.returns
returns c = lemmas.no_source_is_left_out
