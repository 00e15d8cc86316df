use Rattle.fx_algebra.specs.Evaluation.{rows_from}
use Rattle.fx_steps.proofs.FewerLemmas.{fewer_laws}
use Rattle.fx_evaluation.proofs.RunLemmas.{run_of_fewer, same_again}
use Rattle.fx_evaluation.proofs.runs.with_next_of.Goals as goal

pub returns-then-is_empty-clause-rows : goal.returns-then-is_empty-clause-rows
returns-then-is_empty-clause-rows c =
    let graph = c.args.store.now in
    let more = c.in_ok-more.more in
    same_again c.args.conditions.now (rows_from graph more.rows.items more.left.items) (rows_from graph c.args.run.rows.items c.args.run.left.items) c.in_ok-more.ensures.same

pub returns-clause-rows : goal.returns-clause-rows
returns-clause-rows c =
    let graph = c.args.store.now in
    let conditions = c.args.conditions.now in
    let more = c.in_ok-more.more in
    let kept = c.in_ok-rows.rows.items in
    let between = rows_from graph more.rows.items more.left.items in
    let whole = rows_from graph c.args.run.rows.items c.args.run.left.items in
    fewer_laws.in_turn conditions (rows_from graph kept more.left.items) between whole
    (run_of_fewer conditions graph kept more.rows.items more.left.items (rw c.as_slice-3.ensures.value at c.known_to_rise-2.ensures) (rw c.as_slice-2.ensures.value at c.known_to_rise.ensures) c.in_ok-rows.ensures)
    (same_again conditions between whole c.in_ok-more.ensures.same)
