use Rattle.fx_rounds.proofs.SumLemmas as lemmas
use Rattle.fx_rounds.proofs.laws.faults_and_refusals_are_enough.Goals as goal

pub returns : goal.returns
returns c = lemmas.faults_and_refusals_are_enough
