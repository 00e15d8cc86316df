use Rattle.std.proofs.Common.{◌≡◌, ◌+◌, ◌<◌, ◌≤◌, drop, length}
use Rattle.fx_plan.specs.Places.{first_place}
use Rattle.fx_plan.proofs.orders.next.Given as goal

-- the best of those from a place on
abbrev pub invariant-loop-at : goal.invariant-loop-at
invariant-loop-at l = record {
  place : l.best ≡ l.at + first_place (drop l.at l.left);
  within : l.best < length l.left;
  low : l.at ≤ l.best;
}

abbrev pub decreases-loop-at : goal.decreases-loop-at
decreases-loop-at l = l.at
