use Rattle.std.proofs.Common.{◌≡◌}
use Rattle.fx_solutions.specs.Joins.{matched}
use Rattle.fx_solutions.proofs.left_joins.match_all.Given as goal

abbrev pub invariant-loop-row : goal.invariant-loop-row
invariant-loop-row l = l.rows.items ≡ matched l.conditions l.shared l.index l.yielded
