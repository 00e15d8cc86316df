use Rattle.std.proofs.Common.{◌≡◌, ◌++◌, drop}
use Rattle.std.specs.Option.{option_copied}
use Rattle.fx_bound.specs.Sent.{bound_ones, listed}
use Rattle.fx_bound.proofs.reading.branch_bound.Given as goal

abbrev pub invariant-loop-branch : goal.invariant-loop-branch
invariant-loop-branch l = listed (option_copied l.found) ++ bound_ones l.row (drop l.branch-index l.branches) ≡ bound_ones l.row l.branches
