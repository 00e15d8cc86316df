use Rattle.fx_steps.proofs.FewerLemmas.{fewer_laws}
use Rattle.fx_evaluation.proofs.ConditionLemmas.{all_of_them}
use Rattle.fx_evaluation.proofs.conditions.early.Goals as goal
use Rattle.fx_evaluation.proofs.conditions.early.Goals.{then-is_new+in_ok-kept, else-is_new}

pub loop-place-init : goal.loop-place-init
loop-place-init c = all_of_them c.args.conditions.now c.args.rows.items

pub loop-place-preserved : goal.loop-place-preserved
loop-place-preserved c =
    elim c.if-is_new.branch [
      | then-is_new+in_ok-kept w ↦ rw w.kept-is (fewer_laws.in_turn c.args.conditions.now _ c.loop-place.kept.items c.args.rows.items w.in_ok-kept.ensures c.loop-place.invariant)
      | else-is_new w ↦ rw w.kept-is c.loop-place.invariant
    ]
