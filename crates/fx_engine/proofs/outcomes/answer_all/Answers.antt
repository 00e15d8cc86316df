use Rattle.std.proofs.Common.{subst, refl, map}
use Rattle.fx_outcomes.specs.RoundEnds.{LeavesOut}
use Rattle.fx_outcomes.specs.Rounds.{IsRequired}
use Rattle.fx_engine.specs.Asked.{HasRowsCause}
use Rattle.fx_walks.specs.GroupsAsked.{units_in}
use Rattle.fx_walks.specs.Tasks.{tasks_with}
use Rattle.fx_engine.proofs.AskedLemmas.{all_tell}
use Rattle.fx_engine.proofs.PlacedLemmas.{flow_placed}
use Rattle.fx_engine.proofs.RefusalLemmas.{all_given, refused_as_told}
use Rattle.fx_engine.proofs.RoundLemmas.{ended_for}
use Rattle.fx_outcomes.proofs.TaskLemmas.{all_at_hand}
use Rattle.fx_engine.proofs.outcomes.answer_all.Goals as goal

pub end_for-requires : goal.end_for-requires
end_for-requires g c =
    let see = g.W.Wire.seen in
    flow_placed c.args.question.now.registry.now (units_in (tasks_with c.args.plan.items c.args.rows.items)) c.args.question.now.block (map see c.args.wires.now) (map see c.answer_with.new.wires) c.in-Err-Flow.ensures.exchanges c.in-Err-Flow.ensures.wanted c.in-Err-Flow.error
    (subst (HasRowsCause (map see c.args.wires.now) (map see c.answer_with.new.wires) c.args.question.now.registry.now (tasks_with c.args.plan.items c.args.rows.items) c.args.question.now.block c.in-Err-Flow.ensures.wanted c.in-Err-Flow.ensures.exchanges) c.in-Err-Flow.field-0-is c.in-Err-Flow.ensures.cause)

pub unreachable-requires : goal.unreachable-requires
unreachable-requires g c =
    let see = g.W.Wire.seen in
    all_at_hand c.args.question.now.query.now c.args.plan.items c.requires.laid_out c.args.rows.items c.requires.all
    (subst (HasRowsCause (map see c.args.wires.now) (map see c.answer_with.new.wires) c.args.question.now.registry.now (tasks_with c.args.plan.items c.args.rows.items) c.args.question.now.block c.in-Err-Refused.ensures.wanted c.in-Err-Refused.ensures.exchanges) c.in-Err-Refused.field-0-is c.in-Err-Refused.ensures.cause)

pub returns-in-Ok : goal.returns-in-Ok
returns-in-Ok g c start tell invoked =
    let see = g.W.Wire.seen in
    let tells = g.W.Wire.tells_log in
    let told_so = g.met.W.Wire.told in
    let es = c.args.question.now.registry.now in
    all_given tells g.W.Wire.counts_alone start (map see c.args.wires.now) (map see c.answer_with.new.wires) tell (all_tell see tells told_so c.args.wires.now) es c.args.question.now.query.now c.requires.spellable.0 c.requires.spellable.1 c.args.plan.items c.args.question.now.block c.args.rows.items
    c.args.down.items invoked (IsRequired es) (LeavesOut es) _ c.in-Ok.answer c.in-Ok.ensures refl c.from_vec.ensures

pub returns-in-Err-Flow : goal.returns-in-Err-Flow
returns-in-Err-Flow g c start tell invoked =
    let see = g.W.Wire.seen in
    let tells = g.W.Wire.tells_log in
    let told_so = g.met.W.Wire.told in
    let es = c.args.question.now.registry.now in
    ended_for tells g.W.Wire.counts_alone start (map see c.args.wires.now) (map see c.answer_with.new.wires) tell (all_tell see tells told_so c.args.wires.now) es c.args.question.now.query.now c.requires.spellable.0 c.requires.spellable.1 c.args.plan.items c.args.question.now.block c.args.rows.items
    c.args.down.items invoked c.in-Err-Flow.error (subst (refused_as_told es c.args.question.now.query.now c.args.plan.items c.args.rows.items c.args.question.now.block tells g.W.Wire.counts_alone (map see c.args.wires.now) (map see c.answer_with.new.wires)) c.in-Err-Flow.field-0-is c.in-Err-Flow.ensures)
    c.end_for.result c.as_slice.result.now c.as_slice.ensures.value c.end_for.ensures
