use Rattle.std.proofs.Common.{List, subst}
use Rattle.fx_terms.specs.declared.patterns.Pattern.{Pattern}
use Rattle.fx_steps.specs.Fewer.{AreFewer}
use Rattle.fx_algebra.specs.Evaluation.{rows_from}
use Rattle.fx_steps.proofs.FewerLemmas.{fewer_laws}
use Rattle.fx_evaluation.proofs.runs.with_run.Goals as goal

pub loop-alloc-init : goal.loop-alloc-init
loop-alloc-init c = subst (λ (ps : List Pattern). AreFewer c.args.conditions.now (rows_from c.args.store.now c.in_ok-rows.rows.items ps) (rows_from c.args.store.now c.args.before.items ps)) c.as_slice.ensures.value (c.in_ok-rows.ensures.same c.args.store.now)

pub loop-alloc-preserved : goal.loop-alloc-preserved
loop-alloc-preserved c =
    let graph = c.args.store.now in
    fewer_laws.in_turn c.args.conditions.now (rows_from graph c.in_ok-run.run'.rows.items c.in_ok-run.run'.left.items) (rows_from graph c.loop-alloc.run.rows.items c.loop-alloc.run.left.items)
    (rows_from graph c.args.before.items c.args.patterns.items) c.in_ok-run.ensures.rows c.loop-alloc.invariant
