use Rattle.std.proofs.Common.{length}
use Rattle.fx_flows.proofs.teams.+ask_step+fn-ask_step-join_mut+arg2+fn-ask_step-join_mut+arg3.Given as goal

abbrev pub decreases-ask_step : goal.decreases-ask_step
decreases-ask_step g l = length l.batches.now

abbrev pub decreases-join_mut+arg2 : goal.decreases-join_mut+arg2
decreases-join_mut+arg2 g l = length l.first.now

abbrev pub decreases-join_mut+arg3 : goal.decreases-join_mut+arg3
decreases-join_mut+arg3 g l = length l.others.now
