use Rattle.std.proofs.Common.{Err, ap}
use Rattle.fx_local.proofs.graphs.turtle_graph.Goals as goal

pub returns-in-Err-Refused : goal.returns-in-Err-Refused
returns-in-Err-Refused c = c.in-Err-Refused.ensures.refused c.in-Err-Refused.kind c.in-Err-Refused.place (ap Err c.in-Err-Refused.field-0-is)
