-- The law is the lemma of `JoinOrderLemmas`.
use Rattle.fx_algebra.proofs.JoinOrderLemmas.{joins_in_any_order}
use Rattle.fx_algebra.proofs.laws.one_join.Goals as goal

pub returns : goal.returns
returns c = joins_in_any_order
