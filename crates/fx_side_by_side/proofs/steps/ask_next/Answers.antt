use Rattle.std.proofs.Common.{◌∷◌, [], map, subst, List, Err, Result}
use Rattle.std.specs.declared.alloc.Global.{Global}
use Rattle.std.specs.declared.vec.Vec.{Vec}
use Rattle.fx_algebra.specs.declared.units.Row.{Row}
use Rattle.fx_algebra.specs.declared.units.Unit as unit
use Rattle.fx_flows.specs.Flows.{rows_in}
use Rattle.fx_flows.specs.RunFlows.{RunFlowed}
use Rattle.fx_flows.specs.declared.flows.FlowError.{FlowError}
use Rattle.fx_side_by_side.specs.Steps.{StepsFlowed, unit_at}
use Rattle.fx_side_by_side.proofs.StepLemmas.{step_of_one, step_of_refused}
use Rattle.fx_side_by_side.proofs.steps.ask_next.Goals as goal

pub returns-in-Err : goal.returns-in-Err
returns-in-Err g c =
    let wires = map g.W.Wire.seen c.args.wires.now in
    subst (λ (v : Result (Vec Row Global) FlowError). StepsFlowed g.W.Wire.tells_log g.W.Wire.counts_alone wires wires c.args.endpoints.now c.args.turn.now.step c.args.turn.now.block (c.args.units.now ∷ []) (rows_in v ∷ []) (Err c.in-Err.why ∷ []))
    c.in-Err.ensures.value
    (step_of_refused g.W.Wire.tells_log g.W.Wire.counts_alone wires c.args.endpoints.now c.args.turn.now.step c.args.turn.now.block c.args.units.now c.in-Err.why)

pub returns-in-Ok : goal.returns-in-Ok
returns-in-Ok g c =
    let tells = g.W.Wire.tells_log in
    let alone = g.W.Wire.counts_alone in
    let s = map g.W.Wire.seen c.args.wires.now in
    let t = map g.W.Wire.seen c.run_rows.new.wires in
    let es = c.args.endpoints.now in
    let step = c.args.turn.now.step in
    let block = c.args.turn.now.block in
    let us = c.args.units.now in
    let rows = c.in-Ok.rows.items in
    let next = rows_in c.run_rows.result in
    let asked : RunFlowed tells alone s t es (unit_at step us) block rows next =
    subst (λ (v : List unit.Unit). RunFlowed tells alone s t es v block rows next) c.unit_at-unit.ensures.unit c.run_rows.ensures in
    subst (λ (v : Result (Vec Row Global) FlowError). StepsFlowed tells alone s t es step block (us ∷ []) (rows_in v ∷ []) (next ∷ [])) c.in-Ok.ensures.value
    (step_of_one tells alone s t es step block us rows next asked)
