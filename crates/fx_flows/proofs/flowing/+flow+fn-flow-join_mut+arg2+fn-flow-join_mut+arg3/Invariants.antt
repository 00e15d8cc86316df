use Rattle.std.proofs.Common.{length}
use Rattle.fx_flows.proofs.flowing.+flow+fn-flow-join_mut+arg2+fn-flow-join_mut+arg3.Given as goal

abbrev pub decreases-join_mut+arg2 : goal.decreases-join_mut+arg2
decreases-join_mut+arg2 g l = length l.left.now

abbrev pub decreases-join_mut+arg3 : goal.decreases-join_mut+arg3
decreases-join_mut+arg3 g l = length l.right.now

abbrev pub decreases-flow : goal.decreases-flow
decreases-flow g l = length l.wires.now
