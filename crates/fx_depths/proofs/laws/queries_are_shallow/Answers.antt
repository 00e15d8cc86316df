use Rattle.fx_depths.proofs.QueryDepths as laws
use Rattle.fx_depths.proofs.laws.queries_are_shallow.Goals as goal

pub returns : goal.returns
returns c = laws.queries_are_shallow
