use Rattle.std.proofs.Common.{◌∷◌, subst, List, [], map, Ok, Err}
use Rattle.fx_algebra.specs.Solutions.{Bindings}
use Rattle.fx_algebra.specs.declared.queries.Group.{Group}
use Rattle.fx_engine.specs.Together.{RunAndGroups}
use Rattle.fx_engine.proofs.BehindLemmas.{minus_behind, minus_behind_refused}
use Rattle.fx_engine.proofs.together.run_and_minus.Goals as goal

pub returns-in-Err : goal.returns-in-Err
returns-in-Err g c = λ tasks next end k.
    let s = map g.W.Wire.seen c.args.wires.now in
    let t = map g.W.Wire.seen c.run_and_groups.new.wires in
    let asked : RunAndGroups g.W.Wire.tells_log g.W.Wire.counts_alone s t c.args.walk.now.endpoints.now c.args.walk.now.block (c.args.group.now ∷ []) c.args.its.now (Err c.in-Err.error) =
    subst (λ (v : List Group). RunAndGroups g.W.Wire.tells_log g.W.Wire.counts_alone s t c.args.walk.now.endpoints.now c.args.walk.now.block v c.args.its.now (Err c.in-Err.error)) c.from_ref.ensures.value c.in-Err.ensures in
    minus_behind_refused g.W.Wire.tells_log g.W.Wire.counts_alone c.args.walk.now.endpoints.now c.args.walk.now.block tasks next end s t c.args.group.now c.in-Err.error (asked tasks next end k)

pub returns-in-Ok : goal.returns-in-Ok
returns-in-Ok g c = λ tasks next end k.
    let s = map g.W.Wire.seen c.args.wires.now in
    let t = map g.W.Wire.seen c.run_and_groups.new.wires in
    let both : List Bindings × List Bindings = (c.in-Ok.rows.items, c.in-Ok.found.items) in
    let asked : RunAndGroups g.W.Wire.tells_log g.W.Wire.counts_alone s t c.args.walk.now.endpoints.now c.args.walk.now.block (c.args.group.now ∷ []) c.args.its.now (Ok both) =
    subst (λ (v : List Group). RunAndGroups g.W.Wire.tells_log g.W.Wire.counts_alone s t c.args.walk.now.endpoints.now c.args.walk.now.block v c.args.its.now (Ok both)) c.from_ref.ensures.value c.in-Ok.ensures in
    minus_behind g.W.Wire.tells_log g.W.Wire.counts_alone c.args.walk.now.endpoints.now c.args.walk.now.block tasks next end s t c.args.group.now c.in-Ok.rows.items c.in-Ok.found.items c.lessened.result
    c.lessened.ensures.given c.lessened.ensures.memory (asked tasks next end k)
