use Rattle.std.proofs.Common.{◌∷◌, [], map, subst, rules, List, Ok, Err}
use Rattle.fx_algebra.specs.declared.units.Row.{Row}
use Rattle.fx_flows.specs.RunFlows.{RunFlowed}
use Rattle.fx_flows.proofs.RowsLemmas.{none_left, onwards, stopped_there}
use Rattle.fx_alone.proofs.runs.ask_units.Goals as goal

pub returns-in-Err : goal.returns-in-Err
returns-in-Err g c =
    let tells = g.W.Wire.tells_log in
    let alone = g.W.Wire.counts_alone in
    let s = map g.W.Wire.seen c.loop-unit.wires in
    let t = map g.W.Wire.seen c.ask_unit.new.wires in
    let es = c.args.endpoints.now in
    let u = c.in-Some.unit.now in
    let asked = subst (λ (v : List Row). RunFlowed tells alone s t es (u ∷ []) c.args.block v (Err c.in-Err.error)) c.as_slice.ensures.value c.in-Err.ensures in
    c.loop-unit.invariant.so_far t (Err c.in-Err.error)
    (stopped_there tells alone es u c.loop-unit.left.now c.in-Some.others.now c.in-Some.ensures.whole c.args.block c.loop-unit.entering.items s t c.in-Err.error asked)

pub loop-unit-preserved : goal.loop-unit-preserved
loop-unit-preserved g c =
    let tells = g.W.Wire.tells_log in
    let alone = g.W.Wire.counts_alone in
    let s = map g.W.Wire.seen c.loop-unit.wires in
    let t = map g.W.Wire.seen c.ask_unit.new.wires in
    let es = c.args.endpoints.now in
    let u = c.in-Some.unit.now in
    let asked = subst (λ (v : List Row). RunFlowed tells alone s t es (u ∷ []) c.args.block v (Ok c.in-Ok.next.items)) c.as_slice.ensures.value c.in-Ok.ensures in
    record {
      wired = search rules;
      fit = c.in-Some.ensures.fit.1;
      within = c.in-Some.ensures.within.1;
      so_far = λ after r k. c.loop-unit.invariant.so_far after r
          (onwards tells alone es u c.loop-unit.left.now c.in-Some.others.now c.in-Some.ensures.whole c.args.block c.loop-unit.entering.items
          g.W.Wire.seen c.loop-unit.wires c.ask_unit.new.wires after c.in-Ok.next.items r g.met.W.Wire.told asked k);
    }

pub returns : goal.returns
returns g c =
    let wires = map g.W.Wire.seen c.loop-unit.wires in
    c.loop-unit.invariant.so_far wires (Ok c.loop-unit.entering.items)
    (none_left g.W.Wire.tells_log g.W.Wire.counts_alone wires c.args.endpoints.now c.loop-unit.left.now c.args.block c.loop-unit.entering.items c.in_default.ensures.whole)

pub first_of-requires-clause-fit : goal.first_of-requires-clause-fit
first_of-requires-clause-fit g c = c.loop-unit.invariant.fit

pub first_of-requires-clause-within : goal.first_of-requires-clause-within
first_of-requires-clause-within g c = c.loop-unit.invariant.within
