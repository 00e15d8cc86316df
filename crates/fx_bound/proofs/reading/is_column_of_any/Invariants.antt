use Rattle.std.proofs.Common.{◌≡◌, drop}
use Rattle.fx_algebra.specs.Scopes.{is_among}
use Rattle.fx_bound.specs.Sent.{columns_of_all}
use Rattle.fx_bound.proofs.reading.is_column_of_any.Given as goal

abbrev pub invariant-loop-branch : goal.invariant-loop-branch
invariant-loop-branch l = is_among (columns_of_all (drop l.branch-index l.branches)) l.name ≡ is_among (columns_of_all l.branches) l.name
