use Rattle.std.proofs.Common.{◌≡◌}
use Rattle.fx_algebra.specs.Operators as spec
use Rattle.fx_solutions.proofs.rows.filter.Given as goal

abbrev pub invariant-loop-row : goal.invariant-loop-row
invariant-loop-row l = l.kept.items ≡ spec.filtered l.conditions l.yielded
