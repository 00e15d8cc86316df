use Rattle.std.proofs.Common.{◌≡◌, subst, List, IfOk, arith, rules}
use Rattle.std.proofs.lemmas.Grind.{common_steps}
use Rattle.fx_algebra.specs.declared.units.Row.{Row}
use Rattle.fx_traffic.specs.Batches.{AreCut}
use Rattle.fx_flows.proofs.CutLemmas.{cut_all, one_more}
use Rattle.fx_flows.proofs.cutting.cut.Goals as goal

pub loop-row-preserved : goal.loop-row-preserved
loop-row-preserved c =
    let i = c.loop-row.invariant in
    record {
      whole = grind (arith, common_steps);
      cut = one_more c.loop-row.yielded c.args.block c.requires c.loop-row.batches.items c.loop-row.batch i.cut c.in-Some.row c.with_room.new.batches.items c.in_ok-batch.batch c.push.new.self (search rules) (search rules);
    }

pub returns : goal.returns
returns c =
    let i = c.loop-row.invariant in
    let all : c.loop-row.yielded ≡ c.args.rows.items = grind (arith, common_steps) in
    subst (λ (v : List Row). IfOk c.closed.result (λ batches. AreCut v c.args.block batches.items)) all
    (cut_all c.loop-row.yielded c.args.block c.requires c.loop-row.batches.items c.loop-row.batch i.cut c.closed.result c.closed.ensures)
