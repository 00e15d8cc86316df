use Rattle.fx_rounds.proofs.AnsweredLemmas as lemmas
use Rattle.fx_rounds.proofs.laws.faults_are_told.Goals as goal

pub returns : goal.returns
returns c = lemmas.faults_are_told
