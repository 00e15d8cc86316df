-- The law is the lemma of `NumberLemmas`.
use Rattle.fx_laws_operators.proofs.NumberLemmas.{arithmetic}
use Rattle.fx_laws_operators.proofs.sums_are_in_range.Goals as goal

pub returns : goal.returns
returns c = arithmetic
