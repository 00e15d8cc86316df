use Rattle.std.proofs.Common.{rules, ◌≡◌, ◌∙◌, ◌+◌, ◌++◌, ◌∷◌, [], ap, map, sym, subst, List, take, drop, take-append-drop}
use Rattle.std.proofs.lemmas.List.{take_all, take_more}
use Rattle.fx_algebra.specs.declared.units.Unit as unit
use Rattle.fx_side_by_side.specs.SideBySide.{RunsFlowed}
use Rattle.fx_side_by_side.proofs.RunsLemmas.{Results, runs_unasked}
use Rattle.fx_alone.proofs.RunLemmas.{lost_behind, next_run}
use Rattle.fx_alone.proofs.runs.ask_each.Goals as goal

pub loop-units-init : goal.loop-units-init
loop-units-init g c =
    let tells = g.W.Wire.tells_log in
    let alone = g.W.Wire.counts_alone in
    let wires = map g.W.Wire.seen c.args.wires.now in
    let es = c.args.endpoints.now in
    record {
      wired = c.requires.wired;
      so_far = subst (λ (v : Results). RunsFlowed tells alone wires wires es [] c.args.block v) (sym c.new-found.ensures.items) (runs_unasked tells alone wires es c.args.block []);
    }

pub returns-then-is_err : goal.returns-then-is_err
returns-then-is_err g c =
    let runs = c.args.runs.now in
    let k = c.loop-units.units-index in
    let us = c.units-item.result in
    let more : take (k + 1) runs ≡ take k runs ++ us ∷ [] = take_more runs k us c.loop-units-test.true ∙ ap (λ (v : List unit.Unit). take k runs ++ v ∷ []) (sym c.units-item.is) in
    let whole : (take k runs ++ us ∷ []) ++ drop (k + 1) runs ≡ runs = ap (λ (v : List (List unit.Unit)). v ++ drop (k + 1) runs) (sym more) ∙ take-append-drop (k + 1) runs in
    let tells = g.W.Wire.tells_log in
    let alone = g.W.Wire.counts_alone in
    let see = g.W.Wire.seen in
    let es = c.args.endpoints.now in
    let one = subst (λ (v : List unit.Unit). RunsFlowed tells alone (map see c.loop-units.wires) (map see c.ask_one-one.new.wires) es (v ∷ []) c.args.block (c.ask_one-one.result ∷ [])) c.as_slice.ensures c.ask_one-one.ensures in
    lost_behind see tells alone g.met.W.Wire.told es c.args.block runs k us more c.args.wires.now c.loop-units.wires c.ask_one-one.new.wires c.loop-units.found.items c.ask_one-one.result c.loop-units.invariant.so_far one _ whole

pub loop-units-preserved : goal.loop-units-preserved
loop-units-preserved g c =
    let runs = c.args.runs.now in
    let k = c.loop-units.units-index in
    let us = c.units-item.result in
    let more : take (k + 1) runs ≡ take k runs ++ us ∷ [] = take_more runs k us c.loop-units-test.true ∙ ap (λ (v : List unit.Unit). take k runs ++ v ∷ []) (sym c.units-item.is) in
    let tells = g.W.Wire.tells_log in
    let alone = g.W.Wire.counts_alone in
    let see = g.W.Wire.seen in
    let es = c.args.endpoints.now in
    let one = subst (λ (v : List unit.Unit). RunsFlowed tells alone (map see c.loop-units.wires) (map see c.ask_one-one.new.wires) es (v ∷ []) c.args.block (c.ask_one-one.result ∷ [])) c.as_slice.ensures c.ask_one-one.ensures in
    let pushed : c.push.new.self.items ≡ c.loop-units.found.items ++ c.ask_one-one.result ∷ [] = search rules in
    record {
      wired = search rules;
      so_far = next_run see tells alone g.met.W.Wire.told es c.args.block runs k us more c.args.wires.now c.loop-units.wires c.ask_one-one.new.wires c.loop-units.found.items c.ask_one-one.result c.loop-units.invariant.so_far one
          c.push.new.self.items pushed;
    }

pub returns : goal.returns
returns g c = record {
  results = c.loop-units.found.items;
  flowed =
      subst (λ (v : List (List unit.Unit)). RunsFlowed g.W.Wire.tells_log g.W.Wire.counts_alone (map g.W.Wire.seen c.args.wires.now) (map g.W.Wire.seen c.loop-units.wires) c.args.endpoints.now v c.args.block c.loop-units.found.items)
      (take_all c.loop-units.units-index c.args.runs.now (search rules)) c.loop-units.invariant.so_far;
  given = search rules;
}
