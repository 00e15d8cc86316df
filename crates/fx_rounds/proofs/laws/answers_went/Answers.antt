use Rattle.fx_rounds.proofs.LeftOutLemmas as lemmas
use Rattle.fx_rounds.proofs.laws.answers_went.Goals as goal

pub returns : goal.returns
returns c = lemmas.answers_went
