use Rattle.std.proofs.Common.{subst, All, IsTrue}
use Rattle.std.proofs.lemmas.List.{take_all}
use Rattle.std.proofs.lemmas.List.Elements.{All-more}
use Rattle.fx_algebra.specs.Solutions.{rises}
use Rattle.fx_algebra.specs.declared.units.Row.{Row}
use Rattle.fx_flows.proofs.forms.known_rows.Goals as goal

pub loop-row-preserved : goal.loop-row-preserved
loop-row-preserved c =
    All-more (λ (r : Row). IsTrue (rises r.solution)) c.args.rows.now c.loop-row.row-index c.row-item.result c.loop-row-test.true c.loop-row.invariant
    (subst (λ (r : Row). IsTrue (rises r.solution)) c.row-item.is c.known_solution.ensures)

pub returns : goal.returns
returns c = subst (All (λ (r : Row). IsTrue (rises r.solution))) (take_all c.loop-row.row-index c.args.rows.now c.loop-row-test.false) c.loop-row.invariant
