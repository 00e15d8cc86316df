use Rattle.fx_engine.proofs.LoopLemmas.{left_next}
use Rattle.fx_engine.proofs.rounds.leave.Goals as goal

pub loop-one-preserved : goal.loop-one-preserved
loop-one-preserved c = left_next c.args.left.now c.loop-one.one-index c.one-item.result c.loop-one.kept c.args.kept.now c.loop-one-test.true c.one-item.is c.loop-one.invariant
