use Rattle.std.proofs.Common.{◌≡◌, ◌++◌, map, ℕ, List, vec_len}
use Rattle.fx_algebra.specs.declared.units.Unit as unit
use Rattle.fx_plan.specs.Places.{waits}
use Rattle.fx_plan.specs.Plans as spec
use Rattle.fx_plan.proofs.orders.taken.Given as goal

-- what is left completes the order
abbrev pub invariant-loop-left : goal.invariant-loop-left
invariant-loop-left l =
    (known : List (List ℕ)) (us : List unit.Unit) → l.fn.waiting.items ≡ map (waits known) us →
    (now : List (List ℕ)) × (rest : List unit.Unit) × (l.left.items ≡ map (waits now) rest) × (l.ordered.items ++ spec.in_order now rest ≡ spec.in_order known us)

abbrev pub decreases-loop-left : goal.decreases-loop-left
decreases-loop-left l = vec_len l.left
