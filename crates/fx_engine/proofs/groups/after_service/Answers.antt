use Rattle.std.proofs.Common.{◌≤◌, subst, List, length, IsPermutation, IfOk, Contains}
use Rattle.fx_algebra.specs.Operators.{join}
use Rattle.fx_algebra.specs.Solutions.{Bindings}
use Rattle.fx_walks.specs.declared.tasks.Task.{Task}
use Rattle.fx_walks.proofs.FrontLemmas.{IsNextTask, next_of_all}
use Rattle.fx_engine.proofs.ServiceElementLemmas.{empty_run_there, nothing_there, rows_there, run_there}
use Rattle.fx_engine.proofs.groups.after_service.Goals as goal

pub returns-then-next-tasks : goal.returns-then-next-tasks
returns-then-next-tasks c =
    let over : length c.args.tasks.now ≤ c.args.next.now = subst (λ (v : List Task). length v ≤ c.args.next.now) c.all-tasks.ensures c.if-next-tasks.true in
    nothing_there c.args.tasks.now c.args.next.now c.args.before.now c.new.result.items over

pub returns-in-Run : goal.returns-in-Run
returns-in-Run c =
    let it = c.index-tasks-next.result in
    let there : IsNextTask c.args.tasks.now c.args.next.now it = next_of_all c.args.tasks.now c.all-tasks.result.now c.args.next.now it c.all-tasks.ensures c.if-next-tasks.false c.index-tasks-next.is in
    run_there c.args.tasks.now c.args.next.now c.args.before.now it there.next_is c.in-Run.units c.new-in-Run.result.items c.in-Run.is

pub returns-in-EmptyRun : goal.returns-in-EmptyRun
returns-in-EmptyRun c =
    let it = c.index-tasks-next.result in
    let there : IsNextTask c.args.tasks.now c.args.next.now it = next_of_all c.args.tasks.now c.all-tasks.result.now c.args.next.now it c.all-tasks.ensures c.if-next-tasks.false c.index-tasks-next.is in
    empty_run_there c.args.tasks.now c.args.next.now c.args.before.now it there.next_is c.new-in-EmptyRun.result.items c.in-EmptyRun.is

pub returns-in-Service : goal.returns-in-Service
returns-in-Service c =
    let it = c.index-tasks-next.result in
    let there : IsNextTask c.args.tasks.now c.args.next.now it = next_of_all c.args.tasks.now c.all-tasks.result.now c.args.next.now it c.all-tasks.ensures c.if-next-tasks.false c.index-tasks-next.is in
    rows_there c.args.tasks.now c.args.next.now c.args.before.now it there.next_is c.in-Service.rows c.in-Service.is c.with_rows.result
    (subst (λ (v : List Bindings). IfOk c.with_rows.result (λ rows. IsPermutation (join c.args.before.now v) rows.items)) c.as_slice.ensures c.with_rows.ensures.given) c.with_rows.ensures.memory

pub returns-in-Refused : goal.returns-in-Refused
returns-in-Refused c =
    let it = c.index-tasks-next.result in
    let there : IsNextTask c.args.tasks.now c.args.next.now it = next_of_all c.args.tasks.now c.all-tasks.result.now c.args.next.now it c.all-tasks.ensures c.if-next-tasks.false c.index-tasks-next.is in
    subst (Contains c.args.tasks.now) c.in-Refused.is there.its
