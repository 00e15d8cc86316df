use Rattle.fx_evaluation.proofs.RunLemmas.{one_more}
use Rattle.fx_evaluation.proofs.runs.with_next.Goals as goal

pub returns-in_ok-more-in-Beside-clause-same : goal.returns-in_ok-more-in-Beside-clause-same
returns-in_ok-more-in-Beside-clause-same c =
    one_more c.args.store.now c.args.run.rows.items c.in_ok-more-in-Beside.more.rows.items c.args.run.left.items c.in_ok-more-in-Beside.more.left.items c.known.ensures.rises
    (rw c.as_slice.ensures.value at c.known_to_rise.ensures) c.in_ok-more-in-Beside.ensures.more
