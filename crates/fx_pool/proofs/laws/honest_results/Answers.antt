-- The law is the lemma of `HonestLemmas`.
use Rattle.fx_pool.proofs.HonestLemmas.{honest_results}
use Rattle.fx_pool.proofs.laws.honest_results.Goals as goal

pub returns : goal.returns
returns c = honest_results
