use Rattle.std.proofs.Common.{◌++◌, IsPermutation, vec_len}
use Rattle.fx_evaluation.proofs.first_rows.order_under.Given as goal

-- those that are taken, and those that are left
abbrev pub invariant-loop-alloc : goal.invariant-loop-alloc
invariant-loop-alloc l = IsPermutation l.fn.patterns.items (l.ordered.items ++ l.left.items)

abbrev pub decreases-loop-alloc : goal.decreases-loop-alloc
decreases-loop-alloc l = vec_len l.left
