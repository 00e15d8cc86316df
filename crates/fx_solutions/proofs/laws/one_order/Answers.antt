-- The law is the lemma of `KeyLemmas`.
use Rattle.fx_solutions.proofs.KeyLemmas.{same_in_order}
use Rattle.fx_solutions.proofs.laws.one_order.Goals as goal

pub returns : goal.returns
returns c = same_in_order
