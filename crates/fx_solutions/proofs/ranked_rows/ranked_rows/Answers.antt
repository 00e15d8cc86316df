use Rattle.std.proofs.Common.{arith, IsTrue, subst}
use Rattle.std.proofs.lemmas.Grind.{common_steps}
use Rattle.std.proofs.lemmas.List.Elements.{All-more}
use Rattle.fx_algebra.specs.Solutions.{Bindings, rises}
use Rattle.fx_solutions.proofs.ranked_rows.ranked_rows.Goals as goal

pub loop-row-preserved : goal.loop-row-preserved
loop-row-preserved c = record {
  ranked = grind (arith, common_steps);
  rise =
      All-more (λ s. IsTrue (rises s)) c.args.rows.now c.loop-row.row-index c.row-item.result c.loop-row-test.true c.loop-row.invariant.rise
      (subst (λ (s : Bindings). IsTrue (rises s)) c.row-item.is c.in_ok-with_keys.ensures.rises);
}
