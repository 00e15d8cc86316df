-- The law is the lemma of `AnswerLemmas`.
use Rattle.fx_solutions.proofs.AnswerLemmas.{one_answer_holds}
use Rattle.fx_solutions.proofs.laws.one_answer.Goals as goal

pub returns : goal.returns
returns c = one_answer_holds
