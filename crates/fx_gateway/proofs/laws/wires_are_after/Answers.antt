use Rattle.fx_gateway.proofs.ToldLemmas.{are_after}
use Rattle.fx_gateway.proofs.laws.wires_are_after.Goals as goal

pub returns : goal.returns
returns c = are_after
