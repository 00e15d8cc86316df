use Rattle.std.proofs.Common.{List, [], inr, map, subst}
use Rattle.fx_outcomes.specs.InRounds.{FederatedInRounds}
use Rattle.fx_pool.proofs.WireLemmas.{after_itself}
use Rattle.fx_pool.proofs.WiresLemmas.{all_tell}
use Rattle.fx_rounds.proofs.GainedLemmas.{rounds_have_gained}
use Rattle.fx_sources.specs.Probes.{Entry}
use Rattle.fx_commands.proofs.federated.outcome.Goals as goal

pub returns-in-Ok-clause-answered : goal.returns-in-Ok-clause-answered
returns-in-Ok-clause-answered g c =
    let see = g.W.Wire.seen in
    let tells = g.W.Wire.tells_log in
    let alone = g.W.Wire.counts_alone in
    let s = map see c.args.wires.now in
    let t = map see c.federate.new.wires in
    let es = c.args.members.now in
    let q = c.args.query.now in
    let new = c.federate.new.cache in
    let laws = g.met.W.Wire g.world.𝓛 g.world.𝓜 g.world.𝓡 ((λ s x. x), (λ x. x), (λ x. x), λ x. x) in
    let alike = all_tell see tells laws.told c.args.wires.now in
    let in_rounds = subst (λ (old : List Entry). FederatedInRounds tells alone s t es q old new c.args.block c.federate.result) c.in-Ok.ensures c.federate.ensures in
    inr
    (record {
      alike = alike;
      entries = new;
      in_rounds = in_rounds;
    })

pub returns-in-Err-clause-wired : goal.returns-in-Err-clause-wired
returns-in-Err-clause-wired g c = after_itself (map g.W.Wire.seen c.args.wires.now)

pub returns-in-Ok-clause-wired : goal.returns-in-Ok-clause-wired
returns-in-Ok-clause-wired g c =
    let see = g.W.Wire.seen in
    let tells = g.W.Wire.tells_log in
    let laws = g.met.W.Wire g.world.𝓛 g.world.𝓜 g.world.𝓡 ((λ s x. x), (λ x. x), (λ x. x), λ x. x) in
    let alike = all_tell see tells laws.told c.args.wires.now in
    let all =
    rounds_have_gained tells g.W.Wire.counts_alone (map see c.args.wires.now) (map see c.federate.new.wires) c.args.members.now c.args.query.now c.in-Ok.cache c.federate.new.cache c.args.block c.federate.result alike c.federate.ensures in
    all.after_all
