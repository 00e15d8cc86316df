use Rattle.std.proofs.Common.{◌≡◌, map}
use Rattle.fx_walks.specs.LeftRows.{pair_of, with_none}
use Rattle.fx_walks.proofs.optionals.alone.Given as goal

abbrev pub invariant-loop-row : goal.invariant-loop-row
invariant-loop-row l = map pair_of l.rows.items ≡ map with_none l.yielded
