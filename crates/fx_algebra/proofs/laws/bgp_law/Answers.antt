-- The law is the lemma of `BgpLemmas`.
use Rattle.fx_algebra.proofs.BgpLemmas.{bgp_law_holds}
use Rattle.fx_algebra.proofs.laws.bgp_law.Goals as goal

pub returns : goal.returns
returns c = bgp_law_holds
