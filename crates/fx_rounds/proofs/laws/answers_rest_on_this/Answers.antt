use Rattle.fx_rounds.proofs.AnsweredLemmas as lemmas
use Rattle.fx_rounds.proofs.laws.answers_rest_on_this.Goals as goal

pub returns : goal.returns
returns c = lemmas.answers_rest_on_this
