use Rattle.std.proofs.Common.{◌≡◌, ◌∙◌, ap, sym, subst, refl, [], Err, arith}
use Rattle.std.specs.Prelude.{IsTrue}
use Rattle.fx_outside.specs.declared.doors.DoorError.TheVariants as door
use Rattle.fx_outside.proofs.AlikeLemmas.{alike}
use Rattle.fx_pool.proofs.WiresLemmas.{all_tell}
use Rattle.fx_local.specs.Counts.{CountsDoor}
use Rattle.fx_local.specs.Serving.{once_more}
use Rattle.fx_local.specs.ServingSteps.{end_line}
use Rattle.fx_local.specs.declared.statuses.Status.{Status}
use Rattle.fx_local.proofs.CountLemmas.{door_later, end_counts}
use Rattle.fx_local.proofs.GainLemmas.{gains_alone}
use Rattle.fx_local.proofs.ServingLemmas.{ends_otherwise}
use Rattle.fx_serve.specs.Connections.{known_of, members_of}
use Rattle.fx_serve.specs.Serving.{IsServingReported}
use Rattle.fx_serve.proofs.ServingLemmas.{ended, not_opened, opened_reported}
use Rattle.fx_serve.proofs.serving.serve_members.Goals as goal

pub returns-in-Err-clause-reported : goal.returns-in-Err-clause-reported
returns-in-Err-clause-reported g c =
    let before = g.D.Door.seen c.args.door.now in
    let after = g.D.Door.seen c.start.new.self in
    let m = members_of g.W.Wire c.args.service.members.now c.args.service.asked.block in
    let first = known_of g.W.Wire c.args.wires.now c.args.cache.now in
    let laws = g.met.W.Wire g.world.𝓛 g.world.𝓜 g.world.𝓡 ((λ s x. x), (λ x. x), (λ x. x), λ x. x) in
    let all_alike = all_tell g.W.Wire.seen g.W.Wire.tells_log laws.told c.args.wires.now in
    let addresses = once_more before c.args.service.asked.address.now in
    let e = c.in-Err.error in (
      [],
      end_line e,
      subst (λ (s : Status). IsServingReported m before after addresses c.args.service.asked.count first first s [] (end_line e)) (sym c.end.ensures.status)
          (ended m before after addresses c.args.service.asked.count first first e [] (end_line e) (λ is. let more = c.in-Err.ensures.counted (ap Err is) in omega (arith, more)) (not_opened m before after addresses c.args.service.asked.count first (end_line e) all_alike (λ tells. c.in-Err.ensures.unstarted tells) c.in-Err.ensures.outputs c.in-Err.ensures.inputs)),
      λ told. gains_alone _ _ _ _ (end_line e) (c.end.ensures.line told),
      λ is. absurd (ends_otherwise e (sym c.end.ensures.status ∙ is)),
    )

pub returns-in-Ok-clause-reported : goal.returns-in-Ok-clause-reported
returns-in-Ok-clause-reported g c =
    let see = g.D.Door.seen in
    let m = members_of g.W.Wire c.args.service.members.now c.args.service.asked.block in
    let given = c.serve_connections.ensures.reported in (
      given.0,
      given.1,
      opened_reported m (see c.args.door.now) (see c.start.new.self) (see c.serve_connections.new.door) c.args.service.asked.address.now (known_of g.W.Wire c.args.wires.now c.args.cache.now) (known_of g.W.Wire c.serve_connections.new.wires c.serve_connections.new.cache)
          (λ tells. subst IsTrue (alike g.met.D.Door.told c.args.door.now c.start.new.self) tells) c.in-Ok.ensures.started c.in-Ok.ensures.outputs c.in-Ok.ensures.inputs c.in-Ok.ensures.kept c.args.service.asked.count c.serve_connections.result given.0 given.1 given.2,
      given.3,
      given.4,
    )

pub returns-in-Err-clause-door_faults : goal.returns-in-Err-clause-door_faults
returns-in-Err-clause-door_faults g c =
    let see = g.D.Door.seen in
    subst (λ (s : Status). CountsDoor s (see c.args.door.now).faults (see c.start.new.self).faults) (sym c.end.ensures.status)
    (end_counts (see c.args.door.now).faults (see c.args.door.now).faults (see c.start.new.self).faults c.in-Err.error refl (λ is. c.in-Err.ensures.counted (ap Err is)) (λ not. c.in-Err.ensures.faultless (λ is. let same : c.in-Err.error ≡ door.Failed = cc in not same)))

pub returns-in-Ok-clause-door_faults : goal.returns-in-Ok-clause-door_faults
returns-in-Ok-clause-door_faults g c =
    let see = g.D.Door.seen in
    door_later c.serve_connections.result (see c.args.door.now).faults (see c.start.new.self).faults (see c.serve_connections.new.door).faults (c.in-Ok.ensures.faultless (λ failed. cc)) c.serve_connections.ensures.door_faults
