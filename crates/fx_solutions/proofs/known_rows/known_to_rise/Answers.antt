use Rattle.std.proofs.Common.{subst, All, IsTrue}
use Rattle.std.proofs.lemmas.List.{take_all}
use Rattle.std.proofs.lemmas.List.Elements.{All-more}
use Rattle.fx_algebra.specs.Solutions.{Bindings, rises}
use Rattle.fx_solutions.proofs.known_rows.known_to_rise.Goals as goal

abbrev Rises : Bindings → Type 0
Rises s = IsTrue (rises s)

pub loop-row-preserved : goal.loop-row-preserved
loop-row-preserved c =
    All-more Rises c.args.rows.now c.loop-row.row-index c.row-item.result c.loop-row-test.true c.loop-row.invariant
    (subst Rises c.row-item.is c.pairs-pairs.ensures.rises)

pub returns : goal.returns
returns c = subst (All Rises) (take_all c.loop-row.row-index c.args.rows.now c.loop-row-test.false) c.loop-row.invariant
