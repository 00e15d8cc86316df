use Rattle.fx_gateway.proofs.ToldLemmas.{stay_true}
use Rattle.fx_gateway.proofs.laws.caches_stay_true.Goals as goal

pub returns : goal.returns
returns c = stay_true
