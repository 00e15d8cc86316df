use Rattle.fx_evaluation.proofs.KnownLemmas.{as_before, in_turn}
use Rattle.fx_evaluation.proofs.known.with_known.Goals as goal

pub loop-place-init : goal.loop-place-init
loop-place-init c = as_before c.args.conditions.now c.args.patterns.now c.args.rows.items

pub loop-place-preserved : goal.loop-place-preserved
loop-place-preserved c = in_turn c.args.conditions.now c.args.patterns.now c.in_ok-known.known.items c.loop-place.known.items c.args.rows.items c.in_ok-known.ensures c.loop-place.invariant
