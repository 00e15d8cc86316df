use Rattle.std.proofs.Common.{◌≡◌, map}
use Rattle.std.specs.List.{flat_map}
use Rattle.fx_walks.specs.LeftRows.{pair_of, rows_of}
use Rattle.fx_walks.proofs.optionals.all_of.Given as goal

abbrev pub invariant-loop-row : goal.invariant-loop-row
invariant-loop-row l = l.all.items ≡ flat_map rows_of (map pair_of l.yielded)
