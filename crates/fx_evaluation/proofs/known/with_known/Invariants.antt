use Rattle.fx_evaluation.specs.Known.{ComeToFewer}
use Rattle.fx_evaluation.proofs.known.with_known.Given as goal

abbrev pub invariant-loop-place : goal.invariant-loop-place
invariant-loop-place l = ComeToFewer l.conditions l.patterns l.known.items l.fn.rows.items
