use Rattle.std.proofs.Common.{length}
use Rattle.fx_flows.proofs.teams.+ask_over+fn-ask_over-join_mut+arg2+fn-ask_over-join_mut+arg3.Given as goal

abbrev pub decreases-ask_over : goal.decreases-ask_over
decreases-ask_over g l = length l.wires.now

abbrev pub decreases-join_mut+arg2 : goal.decreases-join_mut+arg2
decreases-join_mut+arg2 g l = length l.left.now

abbrev pub decreases-join_mut+arg3 : goal.decreases-join_mut+arg3
decreases-join_mut+arg3 g l = length l.right.now
