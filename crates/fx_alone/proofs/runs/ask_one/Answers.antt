use Rattle.std.proofs.Common.{◌≡◌, ◌∷◌, [], map, subst, sym, rules, List, Ok, Err}
use Rattle.fx_algebra.specs.declared.units.Row.{Row}
use Rattle.fx_flows.specs.RunFlows.{RunFlowed}
use Rattle.fx_side_by_side.proofs.RunsLemmas.{runs_unasked}
use Rattle.fx_alone.proofs.RunLemmas.{runs_of_one}
use Rattle.fx_alone.proofs.runs.ask_one.Goals as goal

pub returns-in_default : goal.returns-in_default
returns-in_default g c = runs_unasked g.W.Wire.tells_log g.W.Wire.counts_alone (map g.W.Wire.seen c.args.wires.now) c.args.endpoints.now c.args.block (c.args.units.now ∷ [])

pub returns-in-Err : goal.returns-in-Err
returns-in-Err g c =
    let tells = g.W.Wire.tells_log in
    let alone = g.W.Wire.counts_alone in
    let s = map g.W.Wire.seen c.args.wires.now in
    let t = map g.W.Wire.seen c.ask_units.new.wires in
    let es = c.args.endpoints.now in
    let us = c.args.units.now in
    let r = Err c.in-Err.error in
    runs_of_one tells alone s t es c.args.block us r
    (subst (λ (v : List Row). RunFlowed tells alone s t es us c.args.block v r) c.in-Ok.ensures c.in-Err.ensures)

pub returns-in-Ok-ask_units : goal.returns-in-Ok-ask_units
returns-in-Ok-ask_units g c =
    let tells = g.W.Wire.tells_log in
    let alone = g.W.Wire.counts_alone in
    let s = map g.W.Wire.seen c.args.wires.now in
    let t = map g.W.Wire.seen c.ask_units.new.wires in
    let es = c.args.endpoints.now in
    let us = c.args.units.now in
    let listed : c.from_vec.result ≡ c.in-Ok-ask_units.rows.items = search rules in
    let r = Ok c.from_vec.result in
    runs_of_one tells alone s t es c.args.block us r
    (subst (λ (v : List Row). RunFlowed tells alone s t es us c.args.block v r) c.in-Ok.ensures
    (subst (λ (v : List Row). RunFlowed tells alone s t es us c.args.block c.in-Ok.first.items (Ok v)) (sym listed) c.in-Ok-ask_units.ensures))
