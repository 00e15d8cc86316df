use Rattle.fx_evaluation.proofs.ConditionLemmas.{kept_at}
use Rattle.fx_evaluation.proofs.conditions.without_refused.Goals as goal

pub returns : goal.returns
returns c = kept_at c.args.conditions.now c.index-conditions-place.result c.args.place c.args.rows.items c.in_ok-kept.kept.items c.requires c.index-conditions-place.is c.in_ok-kept.ensures
