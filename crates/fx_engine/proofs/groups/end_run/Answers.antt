use Rattle.std.proofs.Common.{subst, List, map, Ok, Err, All, IsTrue}
use Rattle.fx_algebra.specs.Solutions.{Bindings, rises}
use Rattle.fx_algebra.specs.declared.units.Row.{Row}
use Rattle.fx_engine.specs.Asked.{Asked}
use Rattle.fx_walks.specs.GroupsAsked.{RunDue, RunGiven}
use Rattle.fx_engine.proofs.EndLemmas.{no_run_ends, run_ends, run_refused}
use Rattle.fx_engine.proofs.groups.end_run.Goals as goal

pub returns-then-not-in_run : goal.returns-then-not-in_run
returns-then-not-in_run g c =
    no_run_ends g.W.Wire.tells_log g.W.Wire.counts_alone c.args.walk.now.endpoints.now c.args.walk.now.block c.args.walk.now.tasks.now c.args.next.now c.args.before.items (map g.W.Wire.seen c.args.wires.now) c.args.in_run c.if-not-in_run.true

pub returns-in-Err : goal.returns-in-Err
returns-in-Err g c =
    let see = g.W.Wire.seen in
    run_refused g.W.Wire.tells_log g.W.Wire.counts_alone c.args.walk.now.endpoints.now c.args.walk.now.block c.args.walk.now.tasks.now c.args.next.now c.args.before.items (map see c.args.wires.now) (map see c.after_run.new.wires) c.after_run.new.next c.args.in_run c.if-not-in_run.false
    c.in-Err.error
    (subst (λ (v : List Bindings). Asked {X = List Row} g.W.Wire.tells_log g.W.Wire.counts_alone (map see c.args.wires.now) (map see c.after_run.new.wires) c.args.walk.now.endpoints.now c.args.walk.now.tasks.now c.args.walk.now.block (RunGiven c.args.walk.now.endpoints.now c.args.walk.now.block c.args.walk.now.tasks.now c.args.next.now c.after_run.new.next v) (RunDue c.args.walk.now.endpoints.now c.args.walk.now.block c.args.walk.now.tasks.now c.args.next.now v) (Err c.in-Err.error)) c.as_slice-2.ensures.value c.in-Err.ensures)

pub returns : goal.returns
returns g c =
    let see = g.W.Wire.seen in
    run_ends g.W.Wire.tells_log g.W.Wire.counts_alone c.args.walk.now.endpoints.now c.args.walk.now.block c.args.walk.now.tasks.now c.args.next.now c.args.before.items (map see c.args.wires.now) (map see c.after_run.new.wires) c.after_run.new.next c.args.in_run c.if-not-in_run.false
    (subst (All (λ s. IsTrue (rises s))) c.as_slice.ensures.value c.known_to_rise.ensures) c.in-Ok.found.items c.solutions.result c.solutions.ensures.given c.solutions.ensures.memory
    (subst (λ (v : List Bindings). Asked {X = List Row} g.W.Wire.tells_log g.W.Wire.counts_alone (map see c.args.wires.now) (map see c.after_run.new.wires) c.args.walk.now.endpoints.now c.args.walk.now.tasks.now c.args.walk.now.block (RunGiven c.args.walk.now.endpoints.now c.args.walk.now.block c.args.walk.now.tasks.now c.args.next.now c.after_run.new.next v) (RunDue c.args.walk.now.endpoints.now c.args.walk.now.block c.args.walk.now.tasks.now c.args.next.now v) (Ok c.in-Ok.found.items)) c.as_slice-2.ensures.value c.in-Ok.ensures)
