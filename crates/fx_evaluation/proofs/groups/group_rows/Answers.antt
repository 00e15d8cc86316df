use Rattle.fx_evaluation.proofs.WalkLemmas.{rows_all}
use Rattle.fx_evaluation.proofs.groups.group_rows.Goals as goal

pub returns : goal.returns
returns c = rows_all c.args.group.now c.args.store.now c.in_ok-rows.rows.items c.in_ok-rows.ensures
