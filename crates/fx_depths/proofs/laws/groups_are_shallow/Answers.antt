use Rattle.fx_depths.proofs.QueryDepths as laws
use Rattle.fx_depths.proofs.laws.groups_are_shallow.Goals as goal

pub returns : goal.returns
returns c = laws.groups_are_shallow
