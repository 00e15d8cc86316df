use Rattle.fx_turtle.proofs.Documented.{one_refusal_holds}
use Rattle.fx_turtle.proofs.laws.one_refusal.Goals as goal

pub returns : goal.returns
returns c = one_refusal_holds
