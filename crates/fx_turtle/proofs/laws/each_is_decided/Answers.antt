use Rattle.fx_turtle.proofs.Deciding.{each_is_decided_holds}
use Rattle.fx_turtle.proofs.laws.each_is_decided.Goals as goal

pub returns : goal.returns
returns c = each_is_decided_holds
