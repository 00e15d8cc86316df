-- The law is the lemma of `CompareLemmas`.
use Rattle.fx_laws_operators.proofs.CompareLemmas.{errors_stay}
use Rattle.fx_laws_operators.proofs.errors_stay.Goals as goal

pub returns : goal.returns
returns c = errors_stay
