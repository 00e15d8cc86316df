use Rattle.std.proofs.Common.{inr, subst, map}
use Rattle.fx_outcomes.specs.Calls.{occurrences}
use Rattle.fx_outcomes.specs.Invocations.{InvokedBy}
use Rattle.fx_outcomes.specs.RoundEnds.{LeavesOut}
use Rattle.fx_outcomes.specs.Rounds.{IsRequired}
use Rattle.fx_engine.proofs.AskedLemmas.{all_tell}
use Rattle.fx_engine.proofs.RefusalLemmas.{lost_outcomed, placed_so}
use Rattle.fx_engine.proofs.outcomes.outcome_by_plan.Goals as goal

pub returns-in-Err : goal.returns-in-Err
returns-in-Err g c =
    let see = g.W.Wire.seen in
    let tells = g.W.Wire.tells_log in
    let told_so = g.met.W.Wire.told in
    lost_outcomed tells g.W.Wire.counts_alone (map see c.args.wires.now) (map see c.invoke_all.new.wires) (all_tell see tells told_so c.args.wires.now) (all_tell see tells told_so c.invoke_all.new.wires) c.args.question.now.registry.now c.args.question.now.query.now c.requires.spellable.0 c.requires.spellable.1 c.args.plan.items c.args.question.now.block c.in-Err.ensures (IsRequired c.args.question.now.registry.now) (LeavesOut c.args.question.now.registry.now) tt

pub refuse-requires-clause-placed : goal.refuse-requires-clause-placed
refuse-requires-clause-placed g c =
    let see = g.W.Wire.seen in
    let tells = g.W.Wire.tells_log in
    let s = map see c.args.wires.now in
    let t = map see c.invoke_all.new.wires in
    let es = c.args.question.now.registry.now in
    let q = c.args.question.now.query.now in
    placed_so tells g.W.Wire.counts_alone s t es q c.requires.spellable.0 c.requires.spellable.1 c.requires.known c.in-Ok.field-0.rows.items c.in-Some.error
    (subst (InvokedBy tells g.W.Wire.counts_alone s t es (occurrences q) c.in-Ok.field-0.down.items c.in-Ok.field-0.rows.items) c.in-Some.is c.in-Ok.ensures)

pub returns-in-None : goal.returns-in-None
returns-in-None g c =
    let see = g.W.Wire.seen in
    let tells = g.W.Wire.tells_log in
    let told_so = g.met.W.Wire.told in
    let s = map see c.args.wires.now in
    let t = map see c.invoke_all.new.wires in
    let es = c.args.question.now.registry.now in
    let q = c.args.question.now.query.now in
    c.answer_all.ensures s (all_tell see tells told_so c.args.wires.now)
    (subst (InvokedBy tells g.W.Wire.counts_alone s t es (occurrences q) c.in-Ok.field-0.down.items c.in-Ok.field-0.rows.items) c.in-None.is c.in-Ok.ensures)

pub returns-in-Some : goal.returns-in-Some
returns-in-Some g c =
    let see = g.W.Wire.seen in
    let tells = g.W.Wire.tells_log in
    let told_so = g.met.W.Wire.told in
    let s = map see c.args.wires.now in
    let t = map see c.invoke_all.new.wires in
    let es = c.args.question.now.registry.now in
    let q = c.args.question.now.query.now in
    c.refuse.ensures s (all_tell see tells told_so c.args.wires.now)
    (subst (InvokedBy tells g.W.Wire.counts_alone s t es (occurrences q) c.in-Ok.field-0.down.items c.in-Ok.field-0.rows.items) c.in-Some.is c.in-Ok.ensures)
