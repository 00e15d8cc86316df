use Rattle.std.proofs.Common.{◌≡◌, take}
use Rattle.fx_algebra.proofs.queries.copy_row.Given as goal

abbrev pub invariant-loop-value : goal.invariant-loop-value
invariant-loop-value l = l.copies ≡ take l.value-index l.row
