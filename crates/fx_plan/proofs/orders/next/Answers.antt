use Rattle.std.proofs.Common.{arith}
use Rattle.fx_plan.proofs.OrderLemmas.{last_first}
use Rattle.fx_plan.proofs.orders.next.Goals as goal

pub loop-at-init : goal.loop-at-init
loop-at-init c =
    let last = last_first c.args.left.now c.requires in
    record {
      place = omega (arith, last);
      within = omega (arith, c.requires);
      low = omega arith;
    }
