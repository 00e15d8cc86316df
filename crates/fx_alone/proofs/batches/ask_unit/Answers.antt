use Rattle.std.proofs.Common.{◌≡◌, ◌∙◌, ◌++◌, ◌∷◌, [], ap, map, sym, subst, refl, List, Ok, Err, append-nil, append_assoc, rules}
use Rattle.fx_algebra.specs.declared.units.Row.{Row}
use Rattle.fx_flows.specs.RunFlows.{RunFlowed}
use Rattle.fx_flows.specs.declared.flows.FlowError.TheVariants as flow
use Rattle.fx_flows.proofs.TeamStepLemmas.{step_flowed}
use Rattle.fx_flows.proofs.TeamTurnLemmas.{not_asked, nothing_asked, round_on, round_refused, round_refused_later}
use Rattle.fx_alone.proofs.BatchLemmas.{cut_more, cut_none, cut_of}
use Rattle.fx_alone.proofs.batches.ask_unit.Goals as goal

pub loop-left-init : goal.loop-left-init
loop-left-init g c =
    let tells = g.W.Wire.tells_log in
    let alone = g.W.Wire.counts_alone in
    let s = map g.W.Wire.seen c.args.wires.now in
    let es = c.args.endpoints.now in
    let u = c.args.unit.now in
    let none : c.new-made.result.items ≡ [] = c.new-made.ensures.items in
    record {
      wired = c.requires.wired;
      so_far = λ after batches more cut k.
          subst (λ (v : List Row). RunFlowed tells alone s after es (u ∷ []) c.args.block c.args.rows.now (Ok (v ++ more))) (sym none)
          (step_flowed tells alone s after es u c.args.block c.args.rows.now batches (Ok more) c.requires.block.0 cut k);
      refused = λ after batches why cut k. step_flowed tells alone s after es u c.args.block c.args.rows.now batches (Err why) c.requires.block.0 cut k;
    }

pub returns-in-Err : goal.returns-in-Err
returns-in-Err g c =
    let see = g.W.Wire.seen in
    let batch = c.batch_of.result.0.now in
    let others = c.batch_of.result.1.now in
    let rest = cut_of c.args.block c.requires.block.0 others in
    c.loop-left.invariant.refused (map see c.ask_batch.new.wires) (batch ∷ rest.0) c.in-Err.error
    (cut_more c.args.block c.requires.block.0 c.loop-left.left.now batch others rest.0 c.batch_of.ensures.whole c.batch_of.ensures.sized c.batch_of.ensures.full rest.1)
    (round_refused see g.W.Wire.tells_log g.W.Wire.counts_alone g.met.W.Wire.told c.args.endpoints.now c.args.unit.now (batch ∷ rest.0) (batch ∷ []) rest.0 refl c.loop-left.wires c.ask_batch.new.wires c.in-Err.error c.in-Err.ensures)

pub returns-then-is_err : goal.returns-then-is_err
returns-then-is_err g c =
    let see = g.W.Wire.seen in
    let tells = g.W.Wire.tells_log in
    let alone = g.W.Wire.counts_alone in
    let es = c.args.endpoints.now in
    let u = c.args.unit.now in
    let batch = c.batch_of.result.0.now in
    let others = c.batch_of.result.1.now in
    let rest = cut_of c.args.block c.requires.block.0 others in
    let t = map see c.ask_batch.new.wires in
    c.loop-left.invariant.refused t (batch ∷ rest.0) flow.Memory
    (cut_more c.args.block c.requires.block.0 c.loop-left.left.now batch others rest.0 c.batch_of.ensures.whole c.batch_of.ensures.sized c.batch_of.ensures.full rest.1)
    (round_refused_later see tells alone g.met.W.Wire.told es u (batch ∷ rest.0) (batch ∷ []) rest.0 refl c.loop-left.wires c.ask_batch.new.wires t c.in-Ok.rows.items flow.Memory c.in-Ok.ensures
    (not_asked tells alone t es u rest.0))

pub loop-left-preserved : goal.loop-left-preserved
loop-left-preserved g c =
    let see = g.W.Wire.seen in
    let tells = g.W.Wire.tells_log in
    let alone = g.W.Wire.counts_alone in
    let es = c.args.endpoints.now in
    let u = c.args.unit.now in
    let block = c.args.block in
    let rows = c.args.rows.now in
    let i = c.loop-left.invariant in
    let s = map see c.args.wires.now in
    let batch = c.batch_of.result.0.now in
    let others = c.batch_of.result.1.now in
    let was = c.loop-left.made.items in
    let got = c.in-Ok.rows.items in
    let pushed : c.append.new.self.items ≡ was ++ got = search rules in
    record {
      wired = search rules;
      so_far = λ after batches more cut k.
          subst (λ (v : List Row). RunFlowed tells alone s after es (u ∷ []) block rows (Ok v)) (sym (ap (λ (v : List Row). v ++ more) pushed ∙ append_assoc was got more))
          (i.so_far after (batch ∷ batches) (got ++ more)
          (cut_more block c.requires.block.0 c.loop-left.left.now batch others batches c.batch_of.ensures.whole c.batch_of.ensures.sized c.batch_of.ensures.full cut)
          (round_on see tells alone g.met.W.Wire.told es u (batch ∷ batches) (batch ∷ []) batches refl c.loop-left.wires c.ask_batch.new.wires after got more c.in-Ok.ensures k));
      refused = λ after batches why cut k.
          i.refused after (batch ∷ batches) why
          (cut_more block c.requires.block.0 c.loop-left.left.now batch others batches c.batch_of.ensures.whole c.batch_of.ensures.sized c.batch_of.ensures.full cut)
          (round_refused_later see tells alone g.met.W.Wire.told es u (batch ∷ batches) (batch ∷ []) batches refl c.loop-left.wires c.ask_batch.new.wires after got why c.in-Ok.ensures k);
    }

pub returns : goal.returns
returns g c =
    let tells = g.W.Wire.tells_log in
    let alone = g.W.Wire.counts_alone in
    let wires = map g.W.Wire.seen c.loop-left.wires in
    let es = c.args.endpoints.now in
    let u = c.args.unit.now in
    let none : c.loop-left.left.now ≡ [] = c.is_none.ensures.0 (search rules) in
    subst (λ (v : List Row). RunFlowed tells alone (map g.W.Wire.seen c.args.wires.now) wires es (u ∷ []) c.args.block c.args.rows.now (Ok v)) (append-nil c.loop-left.made.items)
    (c.loop-left.invariant.so_far wires [] [] (cut_none c.args.block c.requires.block.0 c.loop-left.left.now none) (nothing_asked tells alone wires es u))
