use Rattle.std.proofs.Common.{◌≡◌, map}
use Rattle.fx_walks.specs.LeftRows.{kept, pair_of}
use Rattle.fx_walks.proofs.optionals.found_for.Given as goal

abbrev pub invariant-loop-row : goal.invariant-loop-row
invariant-loop-row l = map pair_of l.rows.items ≡ kept l.conditions 0 l.fn.left.items l.yielded
