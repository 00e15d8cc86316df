use Rattle.fx_evaluation.proofs.WalkLemmas.{after_run_moved}
use Rattle.fx_evaluation.proofs.groups.after_run.Goals as goal

pub returns : goal.returns
returns c =
    after_run_moved c.args.group.now c.args.store.now c.args.before.items c.in_ok-rows.rows.items c.args.patterns.items c.in_ok-ordered.ordered.items c.in_ok-conditions.conditions.items c.known.ensures.rises
    c.requires c.in_ok-ordered.ensures c.in_ok-conditions.ensures
    (rw c.as_slice.ensures.value at c.known_to_rise.ensures) (rw (c.as_slice-3.ensures.value, c.as_slice-4.ensures.value) at c.in_ok-rows.ensures)
