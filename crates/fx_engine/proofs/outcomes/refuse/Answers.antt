use Rattle.std.proofs.Common.{subst, List, map}
use Rattle.fx_outside.specs.Endpoints.{EndpointParts}
use Rattle.fx_engine.specs.Asked.{HasRowsCause}
use Rattle.fx_walks.specs.GroupsAsked.{units_in}
use Rattle.fx_outcomes.specs.Outcomes.{IsTold}
use Rattle.fx_outcomes.specs.RoundEnds.{LeavesOut}
use Rattle.fx_outcomes.specs.Rounds.{IsRequired}
use Rattle.fx_walks.specs.Tasks.{tasks_with}
use Rattle.fx_engine.proofs.AskedLemmas.{all_tell}
use Rattle.fx_engine.proofs.PlacedLemmas.{flow_placed}
use Rattle.fx_engine.proofs.RefusalLemmas.{refused_as_told, told_at_the_end, told_behind}
use Rattle.fx_engine.proofs.RoundLemmas.{refused_first}
use Rattle.fx_engine.proofs.outcomes.refuse.Goals as goal

pub first_refusal-requires-clause-named : goal.first_refusal-requires-clause-named
first_refusal-requires-clause-named g c =
    let see = g.W.Wire.seen in
    flow_placed c.args.question.now.registry.now (units_in (tasks_with c.args.plan.items c.args.rows.items)) c.args.question.now.block (map see c.args.wires.now) (map see c.answer_with.new.wires) c.in-Err-Flow.ensures.exchanges c.in-Err-Flow.ensures.wanted c.in-Err-Flow.first
    (subst (HasRowsCause (map see c.args.wires.now) (map see c.answer_with.new.wires) c.args.question.now.registry.now (tasks_with c.args.plan.items c.args.rows.items) c.args.question.now.block c.in-Err-Flow.ensures.wanted c.in-Err-Flow.ensures.exchanges) c.in-Err-Flow.field-0-is c.in-Err-Flow.ensures.cause)

pub returns-in-Err-Flow : goal.returns-in-Err-Flow
returns-in-Err-Flow g c start tell stopped =
    let see = g.W.Wire.seen in
    let tells = g.W.Wire.tells_log in
    let told_so = g.met.W.Wire.told in
    let es = c.args.question.now.registry.now in
    refused_first tells g.W.Wire.counts_alone start (map see c.args.wires.now) (map see c.answer_with.new.wires) tell (all_tell see tells told_so c.args.wires.now) es c.args.question.now.query.now c.requires.spellable.0 c.requires.spellable.1 c.args.plan.items c.args.question.now.block c.args.rows.items
    c.args.error stopped c.in-Err-Flow.first (subst (refused_as_told es c.args.question.now.query.now c.args.plan.items c.args.rows.items c.args.question.now.block tells g.W.Wire.counts_alone (map see c.args.wires.now) (map see c.answer_with.new.wires)) c.in-Err-Flow.field-0-is c.in-Err-Flow.ensures)
    c.first_refusal.result c.first_refusal.ensures

pub returns-in-Err-Refused : goal.returns-in-Err-Refused
returns-in-Err-Refused g c start tell stopped =
    let see = g.W.Wire.seen in
    let tells = g.W.Wire.tells_log in
    let told_so = g.met.W.Wire.told in
    let es = c.args.question.now.registry.now in
    told_behind tells g.W.Wire.counts_alone start (map see c.args.wires.now) (map see c.answer_with.new.wires) tell (all_tell see tells told_so c.args.wires.now) es c.args.question.now.query.now c.requires.spellable.0 c.requires.spellable.1 c.args.plan.items c.args.question.now.block c.args.rows.items
    c.args.error stopped (IsRequired es) (LeavesOut es) (subst (refused_as_told es c.args.question.now.query.now c.args.plan.items c.args.rows.items c.args.question.now.block tells g.W.Wire.counts_alone (map see c.args.wires.now) (map see c.answer_with.new.wires)) c.in-Err-Refused.field-0-is c.in-Err-Refused.ensures) c.told.result
    (subst (λ (v : List EndpointParts). IsTold v c.args.error c.told.result) c.endpoints.ensures.value c.told.ensures)

pub returns : goal.returns
returns g c start tell stopped =
    let see = g.W.Wire.seen in
    let tells = g.W.Wire.tells_log in
    let told_so = g.met.W.Wire.told in
    let es = c.args.question.now.registry.now in
    told_at_the_end tells g.W.Wire.counts_alone start (map see c.args.wires.now) (map see c.answer_with.new.wires) tell (all_tell see tells told_so c.args.wires.now) es c.args.question.now.query.now c.requires.spellable.0 c.requires.spellable.1 c.args.plan.items c.args.question.now.block c.args.rows.items
    c.args.error stopped (IsRequired es) (LeavesOut es) c.in-Ok.field-0 c.in-Ok.ensures c.told-in-Ok.result
    (subst (λ (v : List EndpointParts). IsTold v c.args.error c.told-in-Ok.result) c.endpoints-in-Ok.ensures.value c.told-in-Ok.ensures)
