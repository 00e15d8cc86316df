-- The law is the lemma of `CompareLemmas`.
use Rattle.fx_laws_operators.proofs.CompareLemmas.{by_order}
use Rattle.fx_laws_operators.proofs.order_is_by_value.Goals as goal

pub returns : goal.returns
returns c = by_order
