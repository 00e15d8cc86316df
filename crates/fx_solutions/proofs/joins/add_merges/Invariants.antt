use Rattle.std.proofs.Common.{◌≡◌, ◌++◌, take}
use Rattle.fx_algebra.specs.Operators.{merges}
use Rattle.fx_solutions.proofs.joins.add_merges.Given as goal

abbrev pub invariant-loop-other : goal.invariant-loop-other
invariant-loop-other l = l.rows.items ≡ l.initial.rows.items ++ merges (take l.other-index l.others) l.row
