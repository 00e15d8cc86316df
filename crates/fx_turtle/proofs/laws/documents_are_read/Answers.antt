use Rattle.fx_turtle.proofs.Exampled.{documents_are_read_hold}
use Rattle.fx_turtle.proofs.laws.documents_are_read.Goals as goal

pub returns : goal.returns
returns c = documents_are_read_hold
