use Rattle.std.proofs.Common.{map}
use Rattle.fx_walks.specs.AnswersAsked.{AnswerDue, AnswerGiven}
use Rattle.fx_walks.specs.GroupsAsked.{GroupDue, GroupGiven}
use Rattle.fx_engine.proofs.AnsweredLemmas.{answer_due, answered}
use Rattle.fx_engine.proofs.AskedLemmas.{refused_as}
use Rattle.fx_engine.proofs.answers.answer_by_plan.Goals as goal

pub returns-in-Err : goal.returns-in-Err
returns-in-Err g c =
    let tasks = c.args.walk.now.tasks.now in
    let q = c.args.query.now in
    let later = c.group_rows.new.next in
    refused_as g.W.Wire.tells_log g.W.Wire.counts_alone c.args.walk.now.endpoints.now tasks c.args.walk.now.block (map g.W.Wire.seen c.args.wires.now) (map g.W.Wire.seen c.group_rows.new.wires) (GroupGiven c.args.walk.now.endpoints.now c.args.walk.now.block tasks 0 later q.group) (GroupDue c.args.walk.now.endpoints.now c.args.walk.now.block tasks 0 q.group) (AnswerGiven c.args.walk.now.endpoints.now c.args.walk.now.block tasks q) (AnswerDue c.args.walk.now.endpoints.now c.args.walk.now.block tasks q) c.in-Err.error
    (λ graphs wanted due. answer_due c.args.walk.now.endpoints.now c.args.walk.now.block tasks q later graphs wanted due) c.in-Err.ensures

pub returns-in-Ok : goal.returns-in-Ok
returns-in-Ok g c =
    answered g.W.Wire.tells_log g.W.Wire.counts_alone c.args.walk.now.endpoints.now c.args.walk.now.tasks.now c.args.walk.now.block c.args.query.now c.group_rows.new.next (map g.W.Wire.seen c.args.wires.now) (map g.W.Wire.seen c.group_rows.new.wires) c.in-Ok.rows.items c.answer_from.result
    c.answer_from.ensures.given c.answer_from.ensures.memory c.in-Ok.ensures
