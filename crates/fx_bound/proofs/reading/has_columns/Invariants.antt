use Rattle.std.proofs.Common.{◌≡◌, drop}
use Rattle.fx_bound.specs.Sent.{columns, has_columns}
use Rattle.fx_bound.proofs.reading.has_columns.Given as goal

abbrev pub invariant-loop-pair : goal.invariant-loop-pair
invariant-loop-pair l = has_columns (columns l.branch) (drop l.pair-index l.pairs) ≡ has_columns (columns l.branch) l.pairs
