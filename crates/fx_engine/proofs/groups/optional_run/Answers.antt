use Rattle.std.proofs.Common.{sym, subst, List, map, Ok, Err, All, IsTrue}
use Rattle.fx_algebra.specs.Solutions.{Bindings, rises}
use Rattle.fx_algebra.specs.declared.units.Row.{Row}
use Rattle.fx_engine.specs.Asked.{Asked}
use Rattle.fx_walks.specs.GroupsAsked.{RunDue, RunGiven}
use Rattle.fx_engine.proofs.EndLemmas.{optional_asked, optional_refused, optional_unasked}
use Rattle.fx_engine.proofs.groups.optional_run.Goals as goal

pub returns-then-not-has_pattern : goal.returns-then-not-has_pattern
returns-then-not-has_pattern g c =
    optional_unasked g.W.Wire.tells_log g.W.Wire.counts_alone c.args.walk.now.endpoints.now c.args.walk.now.block c.args.walk.now.tasks.now c.args.next.now c.args.before.items c.args.group.now c.requires.simple (map g.W.Wire.seen c.args.wires.now) (sym c.if-not-has_pattern.ensures) c.filters_alone.result
    c.filters_alone.ensures.given c.filters_alone.ensures.memory

pub returns-in-Err : goal.returns-in-Err
returns-in-Err g c =
    let see = g.W.Wire.seen in
    optional_refused g.W.Wire.tells_log g.W.Wire.counts_alone c.args.walk.now.endpoints.now c.args.walk.now.block c.args.walk.now.tasks.now c.args.next.now c.args.before.items c.args.group.now c.requires.simple (map see c.args.wires.now) (map see c.after_run.new.wires) c.after_run.new.next (sym c.if-not-has_pattern.ensures)
    c.in-Err.error
    (subst (λ (v : List Bindings). Asked {X = List Row} g.W.Wire.tells_log g.W.Wire.counts_alone (map see c.args.wires.now) (map see c.after_run.new.wires) c.args.walk.now.endpoints.now c.args.walk.now.tasks.now c.args.walk.now.block (RunGiven c.args.walk.now.endpoints.now c.args.walk.now.block c.args.walk.now.tasks.now c.args.next.now c.after_run.new.next v) (RunDue c.args.walk.now.endpoints.now c.args.walk.now.block c.args.walk.now.tasks.now c.args.next.now v) (Err c.in-Err.error)) c.as_slice-2.ensures.value c.in-Err.ensures)

pub returns-in-Ok : goal.returns-in-Ok
returns-in-Ok g c =
    let see = g.W.Wire.seen in
    optional_asked g.W.Wire.tells_log g.W.Wire.counts_alone c.args.walk.now.endpoints.now c.args.walk.now.block c.args.walk.now.tasks.now c.args.next.now c.args.before.items c.args.group.now c.requires.simple (map see c.args.wires.now) (map see c.after_run.new.wires) c.after_run.new.next (sym c.if-not-has_pattern.ensures)
    (subst (All (λ s. IsTrue (rises s))) c.as_slice.ensures.value c.known_to_rise.ensures) c.in-Ok.found.items c.with_optional.result c.with_optional.ensures.given c.with_optional.ensures.memory
    (subst (λ (v : List Bindings). Asked {X = List Row} g.W.Wire.tells_log g.W.Wire.counts_alone (map see c.args.wires.now) (map see c.after_run.new.wires) c.args.walk.now.endpoints.now c.args.walk.now.tasks.now c.args.walk.now.block (RunGiven c.args.walk.now.endpoints.now c.args.walk.now.block c.args.walk.now.tasks.now c.args.next.now c.after_run.new.next v) (RunDue c.args.walk.now.endpoints.now c.args.walk.now.block c.args.walk.now.tasks.now c.args.next.now v) (Ok c.in-Ok.found.items)) c.as_slice-2.ensures.value c.in-Ok.ensures)
