use Rattle.std.proofs.Common.{◌≡◌, ◌∙◌, ◌++◌, [], ap, map, sym, subst, List, Ok, append-nil, append_assoc, rules}
use Rattle.fx_algebra.specs.declared.units.Row.{Row}
use Rattle.fx_flows.specs.Teams.{StepAsked}
use Rattle.fx_flows.specs.declared.flows.FlowError.TheVariants as flow
use Rattle.fx_flows.proofs.TeamTurnLemmas.{not_asked, nothing_asked, round_on, round_refused, round_refused_later}
use Rattle.fx_flows.proofs.teams.ask_rounds.Goals as goal

pub loop-left-init : goal.loop-left-init
loop-left-init g c =
    let none : c.new-made.result.items ≡ [] = c.new-made.ensures.items in
    record {
      wired = c.requires.wired;
      teams = c.teams_for-teams.ensures;
      few = c.requires.few;
      so_far = λ after more k.
          subst (λ (v : List Row). StepAsked g.W.Wire.tells_log g.W.Wire.counts_alone (map g.W.Wire.seen c.args.wires.now) after c.args.endpoints.now c.args.unit.now c.args.batches.now (Ok (v ++ more))) (sym none) k;
      refused = λ after why k. k;
    }

pub returns-in-Err : goal.returns-in-Err
returns-in-Err g c =
    let laws = g.met.W.Wire g.world.𝓛 g.world.𝓜 g.world.𝓡 ((λ s x. x), (λ x. x), (λ x. x), λ x. x) in
    c.loop-left.invariant.refused (map g.W.Wire.seen c.ask_step.new.wires) c.in-Err.error
    (round_refused g.W.Wire.seen g.W.Wire.tells_log g.W.Wire.counts_alone laws.told c.args.endpoints.now c.args.unit.now c.loop-left.left.now c.batches_apart.result.0.now c.batches_apart.result.1.now c.batches_apart.ensures.whole c.loop-left.wires c.ask_step.new.wires
    c.in-Err.error c.in-Err.ensures)

pub returns-then-is_err : goal.returns-then-is_err
returns-then-is_err g c =
    let laws = g.met.W.Wire g.world.𝓛 g.world.𝓜 g.world.𝓡 ((λ s x. x), (λ x. x), (λ x. x), λ x. x) in
    let t = map g.W.Wire.seen c.ask_step.new.wires in
    c.loop-left.invariant.refused t flow.Memory
    (round_refused_later g.W.Wire.seen g.W.Wire.tells_log g.W.Wire.counts_alone laws.told c.args.endpoints.now c.args.unit.now c.loop-left.left.now c.batches_apart.result.0.now c.batches_apart.result.1.now c.batches_apart.ensures.whole c.loop-left.wires c.ask_step.new.wires
    t c.in-Ok.rows.items flow.Memory c.in-Ok.ensures (not_asked g.W.Wire.tells_log g.W.Wire.counts_alone t c.args.endpoints.now c.args.unit.now c.batches_apart.result.1.now))

pub loop-left-preserved : goal.loop-left-preserved
loop-left-preserved g c =
    let laws = g.met.W.Wire g.world.𝓛 g.world.𝓜 g.world.𝓡 ((λ s x. x), (λ x. x), (λ x. x), λ x. x) in
    let i = c.loop-left.invariant in
    let tells = g.W.Wire.tells_log in
    let alone = g.W.Wire.counts_alone in
    let es = c.args.endpoints.now in
    let u = c.args.unit.now in
    let all = c.loop-left.left.now in
    let some = c.batches_apart.result.0.now in
    let others = c.batches_apart.result.1.now in
    let was = c.loop-left.made.items in
    let rows = c.in-Ok.rows.items in
    let pushed : c.append.new.self.items ≡ was ++ rows = search rules in
    record {
      wired = search rules;
      teams = search rules;
      few = c.batches_apart.ensures.others;
      so_far = λ after more k.
          subst (λ (v : List Row). StepAsked tells alone (map g.W.Wire.seen c.args.wires.now) after es u c.args.batches.now (Ok v)) (sym (ap (λ (v : List Row). v ++ more) pushed ∙ append_assoc was rows more))
          (i.so_far after (rows ++ more) (round_on g.W.Wire.seen tells alone laws.told es u all some others c.batches_apart.ensures.whole c.loop-left.wires c.ask_step.new.wires after rows more c.in-Ok.ensures k));
      refused = λ after why k.
          i.refused after why (round_refused_later g.W.Wire.seen tells alone laws.told es u all some others c.batches_apart.ensures.whole c.loop-left.wires c.ask_step.new.wires after rows why c.in-Ok.ensures k);
    }

pub returns : goal.returns
returns g c =
    let tells = g.W.Wire.tells_log in
    let alone = g.W.Wire.counts_alone in
    let wires = map g.W.Wire.seen c.loop-left.wires in
    let es = c.args.endpoints.now in
    let u = c.args.unit.now in
    let none : c.loop-left.left.now ≡ [] = c.is_none.ensures.0 (search rules) in
    subst (λ (v : List Row). StepAsked tells alone (map g.W.Wire.seen c.args.wires.now) wires es u c.args.batches.now (Ok v)) (append-nil c.loop-left.made.items)
    (c.loop-left.invariant.so_far wires []
    (subst (λ (v : List (List Row)). StepAsked tells alone wires wires es u v (Ok [])) (sym none) (nothing_asked tells alone wires es u)))

pub batches_apart-requires-clause-few : goal.batches_apart-requires-clause-few
batches_apart-requires-clause-few g c = c.loop-left.invariant.few
