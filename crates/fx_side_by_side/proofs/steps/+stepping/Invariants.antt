use Rattle.std.proofs.Common.{◌+◌, ◌*◌, length}
use Rattle.fx_side_by_side.proofs.steps.+stepping.Given as goal

abbrev pub decreases-ask_beside : goal.decreases-ask_beside
decreases-ask_beside g l = 2 * length l.runs.now

abbrev pub decreases-ask_steps : goal.decreases-ask_steps
decreases-ask_steps g l = 2 * length l.runs.now + 1

abbrev pub decreases-ask_beside-join_mut+arg2 : goal.decreases-ask_beside-join_mut+arg2
decreases-ask_beside-join_mut+arg2 g l = 2 * length l.first.now + 1

abbrev pub decreases-ask_beside-join_mut+arg3 : goal.decreases-ask_beside-join_mut+arg3
decreases-ask_beside-join_mut+arg3 g l = 2 * length l.others.now + 1
