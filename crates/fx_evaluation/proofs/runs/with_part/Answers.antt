use Rattle.fx_evaluation.proofs.RunLemmas.{part_joined}
use Rattle.fx_evaluation.proofs.runs.with_part.Goals as goal

pub returns-clause-same : goal.returns-clause-same
returns-clause-same c =
    part_joined c.args.store.now c.args.run.rows.items c.in_ok-part.part.rows.items c.in_ok-rows.rows.items c.args.run.left.items c.in_ok-part.part.left.items c.known.ensures.rises
    (rw c.as_slice.ensures.value at c.known_to_rise.ensures) c.in_ok-part.ensures.part (rw c.as_slice-3.ensures.value at c.in_ok-rows.ensures)
