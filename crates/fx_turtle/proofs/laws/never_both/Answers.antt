use Rattle.fx_turtle.proofs.Documented.{never_both_holds}
use Rattle.fx_turtle.proofs.laws.never_both.Goals as goal

pub returns : goal.returns
returns c = never_both_holds
