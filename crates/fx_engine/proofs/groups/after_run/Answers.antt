use Rattle.std.proofs.Common.{◌≡◌, ◌+◌, ◌<◌, ap, sym, subst, List, length, map, Ok, Err, All, arith}
use Rattle.std.proofs.lemmas.List.Elements.{All-contains}
use Rattle.fx_algebra.specs.declared.units.Row.{Row}
use Rattle.fx_algebra.specs.declared.units.Unit as unit
use Rattle.fx_flows.specs.RunFlows.{RunFlowed}
use Rattle.fx_spelling.specs.Units.{IsFit}
use Rattle.fx_steps.specs.Steps.{numbered}
use Rattle.fx_engine.specs.Asked.{Asked}
use Rattle.fx_walks.specs.GroupsAsked.{RunDue, RunGiven}
use Rattle.fx_engine.specs.RowsAsked.{CanBeAsked}
use Rattle.fx_walks.specs.Tasks.{front_of}
use Rattle.fx_walks.specs.declared.tasks.Task.TheVariants as task
use Rattle.fx_walks.proofs.FrontLemmas.{IsNextInFront, next_in_front, refused_there}
use Rattle.fx_engine.proofs.RunAskedLemmas.{no_run, no_task, refused_unrun, run_asked, run_behind, run_refused, service_unrun}
use Rattle.fx_engine.proofs.groups.after_run.Goals as goal

pub returns-then-next-len : goal.returns-then-next-len
returns-then-next-len g c =
    let see = g.W.Wire.seen in
    let wires = map see c.args.wires.now in
    subst (λ (v : List Row). Asked g.W.Wire.tells_log g.W.Wire.counts_alone wires wires c.args.walk.now.endpoints.now c.args.walk.now.tasks.now c.args.walk.now.block (RunGiven c.args.walk.now.endpoints.now c.args.walk.now.block c.args.walk.now.tasks.now c.args.next.now c.args.next.now c.args.rows.now) (RunDue c.args.walk.now.endpoints.now c.args.walk.now.block c.args.walk.now.tasks.now c.args.next.now c.args.rows.now) (Ok v)) (sym c.new.ensures.items)
    (no_task g.W.Wire.tells_log g.W.Wire.counts_alone wires wires c.args.walk.now.endpoints.now c.args.walk.now.block c.args.walk.now.tasks.now c.args.next.now c.args.rows.now (omega (arith, c.len.ensures, c.if-next-len.true)))

pub returns-then-next-front : goal.returns-then-next-front
returns-then-next-front g c =
    let wires = map g.W.Wire.seen c.args.wires.now in
    let long : length c.front-front.result.now ≡ length (front_of c.args.walk.now.tasks.now) = ap length c.front-front.ensures in
    let few : length (front_of c.args.walk.now.tasks.now) < length c.args.walk.now.tasks.now = omega (arith, long, c.len.ensures, c.if-next-len.false, c.if-next-front.true) in
    run_behind g.W.Wire.tells_log g.W.Wire.counts_alone wires wires c.args.walk.now.endpoints.now c.args.walk.now.block c.args.walk.now.tasks.now c.args.next.now c.args.rows.now (refused_there c.args.walk.now.tasks.now few)

pub run_flow-requires-clause-some : goal.run_flow-requires-clause-some
run_flow-requires-clause-some g c =
    let it = c.index-front-next.result in
    let there : IsNextInFront c.args.walk.now.tasks.now c.args.next.now it = next_in_front c.args.walk.now.tasks.now c.front-front.result.now c.args.next.now it c.front-front.ensures c.if-next-front.false c.index-front-next.is in
    let can : CanBeAsked (length c.args.walk.now.endpoints.now) (task.Run c.in-Run.units) = subst (CanBeAsked (length c.args.walk.now.endpoints.now)) c.in-Run.is (All-contains (CanBeAsked (length c.args.walk.now.endpoints.now)) c.args.walk.now.tasks.now it c.requires.asked there.is_next.its) in
    subst (λ (v : List unit.Unit). 0 < length v) (sym c.as_slice.ensures) can.some

pub run_flow-requires-clause-fit : goal.run_flow-requires-clause-fit
run_flow-requires-clause-fit g c =
    let it = c.index-front-next.result in
    let there : IsNextInFront c.args.walk.now.tasks.now c.args.next.now it = next_in_front c.args.walk.now.tasks.now c.front-front.result.now c.args.next.now it c.front-front.ensures c.if-next-front.false c.index-front-next.is in
    let can : CanBeAsked (length c.args.walk.now.endpoints.now) (task.Run c.in-Run.units) = subst (CanBeAsked (length c.args.walk.now.endpoints.now)) c.in-Run.is (All-contains (CanBeAsked (length c.args.walk.now.endpoints.now)) c.args.walk.now.tasks.now it c.requires.asked there.is_next.its) in
    subst (λ (v : List unit.Unit). All IsFit v) (sym c.as_slice.ensures) can.fit

pub run_flow-requires-clause-within : goal.run_flow-requires-clause-within
run_flow-requires-clause-within g c =
    let it = c.index-front-next.result in
    let there : IsNextInFront c.args.walk.now.tasks.now c.args.next.now it = next_in_front c.args.walk.now.tasks.now c.front-front.result.now c.args.next.now it c.front-front.ensures c.if-next-front.false c.index-front-next.is in
    let can : CanBeAsked (length c.args.walk.now.endpoints.now) (task.Run c.in-Run.units) = subst (CanBeAsked (length c.args.walk.now.endpoints.now)) c.in-Run.is (All-contains (CanBeAsked (length c.args.walk.now.endpoints.now)) c.args.walk.now.tasks.now it c.requires.asked there.is_next.its) in
    subst (λ (v : List unit.Unit). All (λ u. All (λ at. at < length c.args.walk.now.endpoints.now) u.members) v) (sym c.as_slice.ensures) can.within

pub returns-in-Err : goal.returns-in-Err
returns-in-Err g c =
    let see = g.W.Wire.seen in
    let before = map see c.args.wires.now in
    let after = map see c.run_flow.new.wires in
    let it = c.index-front-next.result in
    let there : IsNextInFront c.args.walk.now.tasks.now c.args.next.now it = next_in_front c.args.walk.now.tasks.now c.front-front.result.now c.args.next.now it c.front-front.ensures c.if-next-front.false c.index-front-next.is in
    let can : CanBeAsked (length c.args.walk.now.endpoints.now) (task.Run c.in-Run.units) = subst (CanBeAsked (length c.args.walk.now.endpoints.now)) c.in-Run.is (All-contains (CanBeAsked (length c.args.walk.now.endpoints.now)) c.args.walk.now.tasks.now it c.requires.asked there.is_next.its) in
    run_refused g.W.Wire.tells_log g.W.Wire.counts_alone before after c.args.walk.now.endpoints.now c.args.walk.now.block c.args.walk.now.tasks.now c.args.next.now c.args.rows.now it there.is_next.next_is c.in-Run.units c.in-Run.is can.fit there.in_front
    c.in-Err.error
    (subst (λ (v : List unit.Unit). RunFlowed g.W.Wire.tells_log g.W.Wire.counts_alone before after c.args.walk.now.endpoints.now v c.args.walk.now.block (numbered 0 c.args.rows.now) (Err c.in-Err.error)) c.as_slice.ensures c.in-Err.ensures)

pub returns-in-Ok : goal.returns-in-Ok
returns-in-Ok g c =
    let see = g.W.Wire.seen in
    let before = map see c.args.wires.now in
    let after = map see c.run_flow.new.wires in
    let it = c.index-front-next.result in
    let there : IsNextInFront c.args.walk.now.tasks.now c.args.next.now it = next_in_front c.args.walk.now.tasks.now c.front-front.result.now c.args.next.now it c.front-front.ensures c.if-next-front.false c.index-front-next.is in
    let can : CanBeAsked (length c.args.walk.now.endpoints.now) (task.Run c.in-Run.units) = subst (CanBeAsked (length c.args.walk.now.endpoints.now)) c.in-Run.is (All-contains (CanBeAsked (length c.args.walk.now.endpoints.now)) c.args.walk.now.tasks.now it c.requires.asked there.is_next.its) in
    run_asked g.W.Wire.tells_log g.W.Wire.counts_alone before after c.args.walk.now.endpoints.now c.args.walk.now.block c.args.walk.now.tasks.now c.args.next.now c.args.rows.now it there.is_next.next_is c.in-Run.units c.in-Run.is can.fit there.in_front
    c.in-Ok.found.items
    (subst (λ (v : List unit.Unit). RunFlowed g.W.Wire.tells_log g.W.Wire.counts_alone before after c.args.walk.now.endpoints.now v c.args.walk.now.block (numbered 0 c.args.rows.now) (Ok c.in-Ok.found.items)) c.as_slice.ensures c.in-Ok.ensures)

pub returns-in-EmptyRun : goal.returns-in-EmptyRun
returns-in-EmptyRun g c =
    let wires = map g.W.Wire.seen c.args.wires.now in
    let it = c.index-front-next.result in
    let there : IsNextInFront c.args.walk.now.tasks.now c.args.next.now it = next_in_front c.args.walk.now.tasks.now c.front-front.result.now c.args.next.now it c.front-front.ensures c.if-next-front.false c.index-front-next.is in
    subst (λ (v : List Row). Asked g.W.Wire.tells_log g.W.Wire.counts_alone wires wires c.args.walk.now.endpoints.now c.args.walk.now.tasks.now c.args.walk.now.block (RunGiven c.args.walk.now.endpoints.now c.args.walk.now.block c.args.walk.now.tasks.now c.args.next.now (c.args.next.now + 1) c.args.rows.now) (RunDue c.args.walk.now.endpoints.now c.args.walk.now.block c.args.walk.now.tasks.now c.args.next.now c.args.rows.now) (Ok v)) (sym c.new-in-EmptyRun.ensures.items)
    (no_run g.W.Wire.tells_log g.W.Wire.counts_alone wires wires c.args.walk.now.endpoints.now c.args.walk.now.block c.args.walk.now.tasks.now c.args.next.now c.args.rows.now it there.is_next.next_is c.in-EmptyRun.is)

pub returns-in-Service : goal.returns-in-Service
returns-in-Service g c =
    let wires = map g.W.Wire.seen c.args.wires.now in
    let it = c.index-front-next.result in
    let there : IsNextInFront c.args.walk.now.tasks.now c.args.next.now it = next_in_front c.args.walk.now.tasks.now c.front-front.result.now c.args.next.now it c.front-front.ensures c.if-next-front.false c.index-front-next.is in
    subst (λ (v : List Row). Asked g.W.Wire.tells_log g.W.Wire.counts_alone wires wires c.args.walk.now.endpoints.now c.args.walk.now.tasks.now c.args.walk.now.block (RunGiven c.args.walk.now.endpoints.now c.args.walk.now.block c.args.walk.now.tasks.now c.args.next.now (c.args.next.now + 1) c.args.rows.now) (RunDue c.args.walk.now.endpoints.now c.args.walk.now.block c.args.walk.now.tasks.now c.args.next.now c.args.rows.now) (Ok v)) (sym c.new-in-Service.ensures.items)
    (service_unrun g.W.Wire.tells_log g.W.Wire.counts_alone wires wires c.args.walk.now.endpoints.now c.args.walk.now.block c.args.walk.now.tasks.now c.args.next.now c.args.rows.now it there.is_next.next_is c.in-Service.rows c.in-Service.is)

pub returns-in-Refused : goal.returns-in-Refused
returns-in-Refused g c =
    let wires = map g.W.Wire.seen c.args.wires.now in
    let it = c.index-front-next.result in
    let there : IsNextInFront c.args.walk.now.tasks.now c.args.next.now it = next_in_front c.args.walk.now.tasks.now c.front-front.result.now c.args.next.now it c.front-front.ensures c.if-next-front.false c.index-front-next.is in
    subst (λ (v : List Row). Asked g.W.Wire.tells_log g.W.Wire.counts_alone wires wires c.args.walk.now.endpoints.now c.args.walk.now.tasks.now c.args.walk.now.block (RunGiven c.args.walk.now.endpoints.now c.args.walk.now.block c.args.walk.now.tasks.now c.args.next.now (c.args.next.now + 1) c.args.rows.now) (RunDue c.args.walk.now.endpoints.now c.args.walk.now.block c.args.walk.now.tasks.now c.args.next.now c.args.rows.now) (Ok v)) (sym c.new-in-Refused.ensures.items)
    (refused_unrun g.W.Wire.tells_log g.W.Wire.counts_alone wires wires c.args.walk.now.endpoints.now c.args.walk.now.block c.args.walk.now.tasks.now c.args.next.now c.args.rows.now it there.is_next.next_is c.in-Refused.is)
