use Rattle.fx_gateway.proofs.ToldLemmas.{are_told}
use Rattle.fx_gateway.proofs.laws.connections_are_told.Goals as goal

pub returns : goal.returns
returns c = are_told
