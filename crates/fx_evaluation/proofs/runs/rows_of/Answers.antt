use Rattle.fx_evaluation.proofs.RunLemmas.{rows_alone}
use Rattle.fx_evaluation.proofs.runs.rows_of.Goals as goal

pub returns : goal.returns
returns c = rows_alone c.args.store.now c.args.pattern c.empty-nothing.result c.in_ok-rows.rows.items c.empty-nothing.ensures c.in_ok-rows.ensures.fitting
