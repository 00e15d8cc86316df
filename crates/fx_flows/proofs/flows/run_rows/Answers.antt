use Rattle.std.proofs.Common.{◌≡◌, ◌∙◌, [], map, subst, sym, rules, List, Ok, Err}
use Rattle.fx_algebra.specs.declared.units.Row.{Row}
use Rattle.fx_flows.specs.RunFlows.{RunFlowed}
use Rattle.fx_flows.specs.declared.flows.FlowError.TheVariants as flow
use Rattle.fx_flows.proofs.FlowLemmas.{not_flowed}
use Rattle.fx_flows.proofs.RowsLemmas.{none_left, nothing_enters, onwards, stopped_there}
use Rattle.fx_flows.proofs.flows.run_rows.Goals as goal

pub returns-in_default-cut : goal.returns-in_default-cut
returns-in_default-cut g c =
    let wires = map g.W.Wire.seen c.loop-unit.wires in
    c.loop-unit.invariant.so_far wires (Err flow.Memory) (not_flowed g.W.Wire.tells_log g.W.Wire.counts_alone wires c.args.endpoints.now c.loop-unit.left.now c.args.block c.loop-unit.entering.items)

pub returns-then-is_none : goal.returns-then-is_none
returns-then-is_none g c =
    let wires = map g.W.Wire.seen c.loop-unit.wires in
    let none : c.in-Ok.batches.items ≡ [] = sym c.as_slice.ensures.value ∙ c.is_none.ensures.0 c.if-is_none.true in
    subst (λ (v : List Row). RunFlowed g.W.Wire.tells_log g.W.Wire.counts_alone (map g.W.Wire.seen c.args.wires.now) wires c.args.endpoints.now c.args.units.now c.args.block c.args.rows.items (Ok v)) (sym c.new.ensures.items)
    (c.loop-unit.invariant.so_far wires (Ok []) (nothing_enters g.W.Wire.tells_log g.W.Wire.counts_alone wires c.args.endpoints.now c.loop-unit.left.now c.args.block c.loop-unit.entering.items c.in-Ok.batches.items c.in-Ok.ensures none))

pub returns-in-Err : goal.returns-in-Err
returns-in-Err g c =
    let s = map g.W.Wire.seen c.loop-unit.wires in
    let t = map g.W.Wire.seen c.ask_unit.new.wires in
    c.loop-unit.invariant.so_far t (Err c.in-Err.error)
    (stopped_there g.W.Wire.tells_log g.W.Wire.counts_alone c.args.endpoints.now c.in-Some.unit.now c.loop-unit.left.now c.in-Some.others.now c.in-Some.ensures.whole c.args.block c.loop-unit.entering.items s t c.in-Err.error
    (c.in-Err.ensures c.loop-unit.entering.items c.in-Ok.ensures))

pub loop-unit-preserved : goal.loop-unit-preserved
loop-unit-preserved g c =
    let laws = g.met.W.Wire g.world.𝓛 g.world.𝓜 g.world.𝓡 ((λ s x. x), (λ x. x), (λ x. x), λ x. x) in
    record {
      wired = search rules;
      fit = c.in-Some.ensures.fit.1;
      within = c.in-Some.ensures.within.1;
      so_far = λ after r k. c.loop-unit.invariant.so_far after r
          (onwards g.W.Wire.tells_log g.W.Wire.counts_alone c.args.endpoints.now c.in-Some.unit.now c.loop-unit.left.now c.in-Some.others.now c.in-Some.ensures.whole c.args.block c.loop-unit.entering.items
          g.W.Wire.seen c.loop-unit.wires c.ask_unit.new.wires after c.in-Ok-ask_unit.next.items r laws.told (c.in-Ok-ask_unit.ensures c.loop-unit.entering.items c.in-Ok.ensures) k);
    }

pub returns : goal.returns
returns g c =
    let wires = map g.W.Wire.seen c.loop-unit.wires in
    c.loop-unit.invariant.so_far wires (Ok c.loop-unit.entering.items)
    (none_left g.W.Wire.tells_log g.W.Wire.counts_alone wires c.args.endpoints.now c.loop-unit.left.now c.args.block c.loop-unit.entering.items c.in_default.ensures.whole)

pub first_of-requires-clause-fit : goal.first_of-requires-clause-fit
first_of-requires-clause-fit g c = c.loop-unit.invariant.fit

pub first_of-requires-clause-within : goal.first_of-requires-clause-within
first_of-requires-clause-within g c = c.loop-unit.invariant.within

pub ask_unit-requires-clause-sendable : goal.ask_unit-requires-clause-sendable
ask_unit-requires-clause-sendable g c = λ κs within. c.requires.sendable
