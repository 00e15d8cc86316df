use Rattle.std.proofs.Common.{sym, subst, refl, inl, List, length, map, Ok}
use Rattle.std.specs.Prelude.{All}
use Rattle.fx_outside.specs.Endpoints.{EndpointParts}
use Rattle.fx_keys.specs.declared.probes.Probe.{Probe}
use Rattle.fx_spelling.specs.Printable.{IsTriple}
use Rattle.fx_outcomes.specs.Rounds.{AskedMembers}
use Rattle.fx_outcomes.specs.declared.federated.FedError.TheVariants as fed
use Rattle.fx_walks.proofs.KeyLemmas.{probes_are_triples}
use Rattle.fx_engine.proofs.InRoundsLemmas.{planned_in_rounds, unplanned_in_rounds}
use Rattle.fx_engine.proofs.mediator.plan_known.Goals as goal

pub ask_members-requires-clause-triples : goal.ask_members-requires-clause-triples
ask_members-requires-clause-triples g c =
    subst (λ (v : List Probe). All (λ p. IsTriple p.key.pattern) v) (sym c.in-Ok.ensures.probes)
    (probes_are_triples c.requires.spellable.0 c.args.query.now c.requires.spellable.1 (length c.args.registry.now) c.args.cache.now)

pub returns-in-Err : goal.returns-in-Err
returns-in-Err g c = unplanned_in_rounds g.W.Wire.tells_log g.W.Wire.counts_alone (map g.W.Wire.seen c.args.wires.now) c.args.registry.now c.args.query.now c.args.cache.now fed.Memory tt (inl refl)

pub returns-in-Ok-ask_members : goal.returns-in-Ok-ask_members
returns-in-Ok-ask_members g c =
    let see = g.W.Wire.seen in
    let tells = g.W.Wire.tells_log in
    let alone = g.W.Wire.counts_alone in
    let s = map see c.args.wires.now in
    let t = map see c.ask_members.new.wires in
    let es = c.args.registry.now in
    let q = c.args.query.now in
    let old = c.args.cache.now in
    let a = c.in-Ok-ask_members.answers in
    let asked = subst (λ (v : List EndpointParts). AskedMembers tells alone s t v c.in-Ok.probes.items (Ok a)) c.endpoints.ensures.value c.in-Ok-ask_members.ensures in
    let h = subst (λ (v : List Probe). AskedMembers tells alone s t es v (Ok a)) c.in-Ok.ensures.probes asked in
    planned_in_rounds tells alone s t es q old c.requires.known a h c.plan_behind_asks.new.cache c.plan_behind_asks.result c.plan_behind_asks.ensures
