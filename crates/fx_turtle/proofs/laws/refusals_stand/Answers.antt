use Rattle.fx_turtle.proofs.Exampled.{refusals_stand_hold}
use Rattle.fx_turtle.proofs.laws.refusals_stand.Goals as goal

pub returns : goal.returns
returns c = refusals_stand_hold
