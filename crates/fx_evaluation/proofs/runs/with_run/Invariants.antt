use Rattle.std.proofs.Common.{vec_len}
use Rattle.fx_algebra.specs.Evaluation.{rows_from}
use Rattle.fx_steps.specs.Fewer.{AreFewer}
use Rattle.fx_evaluation.proofs.runs.with_run.Given as goal

-- the patterns that are left give of the rows what all give of those before, without some that are gone
abbrev pub invariant-loop-alloc : goal.invariant-loop-alloc
invariant-loop-alloc l = AreFewer l.conditions (rows_from l.store l.run.rows.items l.run.left.items) (rows_from l.store l.fn.before.items l.fn.patterns.items)

abbrev pub decreases-loop-alloc : goal.decreases-loop-alloc
decreases-loop-alloc l = vec_len l.run.left
