use Rattle.std.proofs.Common.{List, [], inr, map, subst}
use Rattle.fx_outcomes.specs.InRounds.{PlannedInRounds}
use Rattle.fx_pool.proofs.WireLemmas.{after_itself}
use Rattle.fx_sources.specs.Probes.{Entry}
use Rattle.fx_commands.proofs.ExplainLemmas.{plan_after, plan_within}
use Rattle.fx_commands.proofs.explained.plan.Goals as goal

pub returns-in-Ok-clause-planned : goal.returns-in-Ok-clause-planned
returns-in-Ok-clause-planned g c =
    let see = g.W.Wire.seen in
    let tells = g.W.Wire.tells_log in
    let alone = g.W.Wire.counts_alone in
    let s = map see c.args.wires.now in
    let t = map see c.plan_parts.new.wires in
    let es = c.args.members.now in
    let q = c.args.query.now in
    let new = c.plan_parts.new.cache in
    let in_rounds = subst (λ (old : List Entry). PlannedInRounds tells alone s t es q old new c.plan_parts.result) c.in-Ok.ensures c.plan_parts.ensures in
    inr (record { entries = new; in_rounds = in_rounds })

pub returns-in-Err-clause-wired : goal.returns-in-Err-clause-wired
returns-in-Err-clause-wired g c = after_itself (map g.W.Wire.seen c.args.wires.now)

pub returns-in-Ok-clause-within : goal.returns-in-Ok-clause-within
returns-in-Ok-clause-within g c =
    let see = g.W.Wire.seen in
    plan_within g.W.Wire.tells_log g.W.Wire.counts_alone (map see c.args.wires.now) (map see c.plan_parts.new.wires) c.args.members.now c.args.query.now c.in-Ok.cache c.plan_parts.new.cache c.plan_parts.result c.plan_parts.ensures

pub returns-in-Ok-clause-wired : goal.returns-in-Ok-clause-wired
returns-in-Ok-clause-wired g c =
    let see = g.W.Wire.seen in
    plan_after g.W.Wire.tells_log g.W.Wire.counts_alone (map see c.args.wires.now) (map see c.plan_parts.new.wires) c.args.members.now c.args.query.now c.in-Ok.cache c.plan_parts.new.cache c.plan_parts.result c.plan_parts.ensures
