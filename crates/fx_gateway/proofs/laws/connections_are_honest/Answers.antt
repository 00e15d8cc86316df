use Rattle.fx_gateway.proofs.ToldLemmas.{are_honest}
use Rattle.fx_gateway.proofs.laws.connections_are_honest.Goals as goal

pub returns : goal.returns
returns c = are_honest
