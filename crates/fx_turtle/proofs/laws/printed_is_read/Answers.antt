use Rattle.fx_turtle.proofs.Printed.{printed_is_read_holds}
use Rattle.fx_turtle.proofs.laws.printed_is_read.Goals as goal

pub returns : goal.returns
returns c = printed_is_read_holds
