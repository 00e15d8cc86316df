-- The law is the lemma of `LogicLemmas`.
use Rattle.fx_laws_operators.proofs.LogicLemmas.{logic}
use Rattle.fx_laws_operators.proofs.truths_are_joined.Goals as goal

pub returns : goal.returns
returns c = logic
