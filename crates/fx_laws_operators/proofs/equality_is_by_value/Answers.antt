-- The law is the lemma of `CompareLemmas`.
use Rattle.fx_laws_operators.proofs.CompareLemmas.{equality}
use Rattle.fx_laws_operators.proofs.equality_is_by_value.Goals as goal

pub returns : goal.returns
returns c = equality
