use Rattle.std.proofs.Common.{◌∙◌}
use Rattle.fx_store.proofs.FitLemmas.{none_fitting}
use Rattle.fx_store.proofs.evaluation.rows_of.Goals as goal

pub returns-in-None-clause-rows : goal.returns-in-None-clause-rows
returns-in-None-clause-rows g c = c.new.ensures.items ∙ none_fitting c.args.row.now c.args.pattern.now c.args.orders.now c.in-None.ensures.none
