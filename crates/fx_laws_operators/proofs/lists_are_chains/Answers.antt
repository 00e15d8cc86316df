-- The law is the lemma of `FunctionLemmas`.
use Rattle.fx_laws_operators.proofs.FunctionLemmas.{lists}
use Rattle.fx_laws_operators.proofs.lists_are_chains.Goals as goal

pub returns : goal.returns
returns c = lists
