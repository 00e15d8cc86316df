use Rattle.fx_gateway.proofs.LicenceLemmas.{are_licensed}
use Rattle.fx_gateway.proofs.laws.connections_are_licensed.Goals as goal

pub returns : goal.returns
returns c = are_licensed
