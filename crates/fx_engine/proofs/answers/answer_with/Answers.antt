use Rattle.std.proofs.Common.{◌∙◌, sym, subst, List, length, map, All}
use Rattle.fx_algebra.specs.declared.answers.Answer.{Answer}
use Rattle.fx_outside.specs.Endpoints.{EndpointParts}
use Rattle.fx_walks.specs.AnswersAsked.{AnswerDue, AnswerGiven}
use Rattle.fx_engine.specs.Asked.{Asked}
use Rattle.fx_engine.specs.RowsAsked.{CanBeAsked}
use Rattle.fx_walks.specs.Tasks.{tasks_with}
use Rattle.fx_walks.specs.declared.tasks.Task.{Task}
use Rattle.fx_engine.proofs.AnsweredLemmas.{nothing_due}
use Rattle.fx_engine.proofs.AskedLemmas.{unasked}
use Rattle.fx_engine.proofs.answers.answer_with.Goals as goal

pub returns-in-Err : goal.returns-in-Err
returns-in-Err g c =
    let es = c.args.question.now.registry.now in
    let block = c.args.question.now.block in
    let tasks = tasks_with c.args.plan.items c.args.found.items in
    let q = c.args.question.now.query.now in
    unasked g.W.Wire.tells_log g.W.Wire.counts_alone es tasks block (AnswerGiven es block tasks q) (AnswerDue es block tasks q) (map g.W.Wire.seen c.args.wires.now) (nothing_due es block tasks q)

pub answer_by_plan-requires-clause-asked : goal.answer_by_plan-requires-clause-asked
answer_by_plan-requires-clause-asked g c =
    subst (λ (es : List EndpointParts). All (CanBeAsked (length es)) c.of-tasks.result) (sym c.endpoints.ensures.value)
    (subst (All (CanBeAsked (length c.args.question.now.registry.now))) (sym (c.of-tasks.ensures ∙ c.in-Ok.ensures)) (c.requires.asked c.args.found.items))

pub returns-in-Ok : goal.returns-in-Ok
returns-in-Ok g c =
    let q = c.args.question.now.query.now in
    let block = c.args.question.now.block in
    let see = g.W.Wire.seen in
    let s = map see c.args.wires.now in
    let t = map see c.answer_by_plan.new.wires in
    subst (λ (v : List Task). Asked {X = Answer} g.W.Wire.tells_log g.W.Wire.counts_alone s t c.args.question.now.registry.now v block (AnswerGiven c.args.question.now.registry.now block v q) (AnswerDue c.args.question.now.registry.now block v q) c.answer_by_plan.result) (c.of-tasks.ensures ∙ c.in-Ok.ensures)
    (subst (λ (es : List EndpointParts). Asked {X = Answer} g.W.Wire.tells_log g.W.Wire.counts_alone s t es c.of-tasks.result block (AnswerGiven es block c.of-tasks.result q) (AnswerDue es block c.of-tasks.result q) c.answer_by_plan.result) c.endpoints.ensures.value
    c.answer_by_plan.ensures)
