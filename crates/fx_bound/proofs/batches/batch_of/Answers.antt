use Rattle.fx_bound.proofs.BatchTextLemmas.{made_of_copies}
use Rattle.fx_bound.proofs.batches.batch_of.Goals as goal

pub invariant_of-result : goal.invariant_of-result
invariant_of-result c = made_of_copies c.args.unit.now c.in_ok-unit.unit c.args.rows.now c.in_ok-rows.rows c.args.branches _ c.in_ok-unit.ensures c.in_ok-rows.ensures c.requires
