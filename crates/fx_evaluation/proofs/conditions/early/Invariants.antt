use Rattle.fx_steps.specs.Fewer.{AreFewer}
use Rattle.fx_evaluation.proofs.conditions.early.Given as goal

abbrev pub invariant-loop-place : goal.invariant-loop-place
invariant-loop-place l = AreFewer l.conditions l.kept.items l.fn.rows.items
