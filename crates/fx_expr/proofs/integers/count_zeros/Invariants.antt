use Rattle.std.proofs.Common.{◌≡◌, ◌-◌, ◌≤◌, length, drop}
use Rattle.fx_expr.specs.Digits.{without_zeros}
use Rattle.fx_expr.proofs.integers.count_zeros.Given as goal

-- what is left decides
abbrev pub invariant-loop-zeros : goal.invariant-loop-zeros
invariant-loop-zeros l = (l.zeros ≤ length l.digits) × (without_zeros (drop l.zeros l.digits) ≡ without_zeros l.digits)

abbrev pub decreases-loop-zeros : goal.decreases-loop-zeros
decreases-loop-zeros l = length l.digits - l.zeros
