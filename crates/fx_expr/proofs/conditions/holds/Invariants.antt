use Rattle.std.proofs.Common.{◌≡◌, drop}
use Rattle.fx_algebra.specs.Conditions as spec
use Rattle.fx_expr.proofs.conditions.holds.Given as goal

abbrev pub invariant-loop-condition : goal.invariant-loop-condition
invariant-loop-condition l = spec.holds (drop l.condition-index l.conditions) l.solution ≡ spec.holds l.conditions l.solution
