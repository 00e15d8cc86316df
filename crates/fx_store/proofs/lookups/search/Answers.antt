use Rattle.std.proofs.Common.{arith, length, sym, ap, ◌∙◌, ◌≡◌, ◌-◌, ◌+◌, ◌/◌, ◌≤◌}
use Rattle.fx_store.specs.Lookups.{stands_in_front, binary_digits}
use Rattle.fx_store.specs.Orders.{in_order}
use Rattle.fx_store.proofs.RunLemmas.{as_many, front_partitioned}
use Rattle.fx_store.proofs.SearchLemmas.{passes_below, fails_above, half, upper_half, lower_half}
use Rattle.fx_store.proofs.lookups.search.Goals as goal

pub loop-low-init : goal.loop-low-init
loop-low-init g c =
    let many = as_many c.args.order c.args.orders.now in
    let all : c.count-high.result - 0 ≡ length c.args.orders.now = omega (arith, c.count-high.ensures) in
    let digits = ap binary_digits all in
    record {
      rises = omega arith;
      ends = omega (arith, c.count-high.ensures);
      below = λ k d low high. absurd (omega arith);
      above = λ k d low high. absurd (omega (arith, many, c.count-high.ensures));
      steps = omega (arith, digits);
    }

pub loop-low-preserved-then-is_in_front : goal.loop-low-preserved-then-is_in_front
loop-low-preserved-then-is_in_front g c =
    let order = c.args.order in
    let graph = c.args.orders.now in
    let low = c.loop-low.low in
    let high = c.loop-low.high in
    let middle = low + (high - low) / 2 in
    let passes = stands_in_front order c.args.sought.now c.args.end in
    let fewer : binary_digits (high - (middle + 1)) + 1 ≤ binary_digits (high - low) = half (high - (middle + 1)) (high - low) (omega (arith, c.loop-low-test.true)) (upper_half low high c.loop-low-test.true) in
    record {
      rises = omega (arith, c.loop-low-test.true);
      ends = c.loop-low.invariant.ends;
      below = passes_below passes (in_order order graph) (front_partitioned order c.args.sought.now c.args.end graph c.known.ensures.rises) middle c.look.result.now c.look.ensures.triple (sym c.is_in_front.ensures ∙ c.if-is_in_front.true);
      above = c.loop-low.invariant.above;
      steps = omega (arith, fewer, c.loop-low.invariant.steps, c.look.ensures.step);
    }

pub loop-low-preserved : goal.loop-low-preserved
loop-low-preserved g c =
    let order = c.args.order in
    let graph = c.args.orders.now in
    let low = c.loop-low.low in
    let high = c.loop-low.high in
    let middle = low + (high - low) / 2 in
    let passes = stands_in_front order c.args.sought.now c.args.end in
    let fewer : binary_digits (middle - low) + 1 ≤ binary_digits (high - low) = half (middle - low) (high - low) (omega (arith, c.loop-low-test.true)) (lower_half low high c.loop-low-test.true) in
    record {
      rises = omega (arith, c.loop-low-test.true);
      ends = omega (arith, c.loop-low-test.true, c.loop-low.invariant.ends);
      below = c.loop-low.invariant.below;
      above = fails_above passes (in_order order graph) (front_partitioned order c.args.sought.now c.args.end graph c.known.ensures.rises) middle c.look.result.now c.look.ensures.triple (sym c.is_in_front.ensures ∙ c.if-is_in_front.false);
      steps = omega (arith, fewer, c.loop-low.invariant.steps, c.look.ensures.step);
    }
