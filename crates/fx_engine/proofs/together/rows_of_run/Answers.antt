use Rattle.fx_engine.proofs.FoundLemmas.{filtered_so}
use Rattle.fx_engine.proofs.together.rows_of_run.Goals as goal

pub returns-clause-given : goal.returns-clause-given
returns-clause-given c = filtered_so c.args.group.now c.args.found c.in_ok-rows.rows.items c.in_ok-rows.ensures.given c.filtered.result c.filtered.ensures.given
