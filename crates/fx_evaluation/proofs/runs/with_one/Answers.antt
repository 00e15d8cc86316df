use Rattle.fx_evaluation.proofs.RunLemmas.{one_at}
use Rattle.fx_evaluation.proofs.runs.with_one.Goals as goal

pub returns-clause-more : goal.returns-clause-more
returns-clause-more c =
    one_at c.args.store.now c.args.run.rows.items c.in_ok-rows.rows.items c.args.run.left.items c.remove-pattern.new.self.items c.remove-pattern.result c.args.place c.requires c.remove-pattern.ensures.value c.remove-pattern.ensures.items c.in_ok-rows.ensures
