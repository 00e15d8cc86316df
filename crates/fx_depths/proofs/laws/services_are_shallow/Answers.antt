use Rattle.fx_depths.proofs.ServiceDepths as laws
use Rattle.fx_depths.proofs.laws.services_are_shallow.Goals as goal

pub returns : goal.returns
returns c = laws.services_are_shallow
