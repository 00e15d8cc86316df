use Rattle.std.proofs.Common.{◌≡◌, ◌∙◌, ap, sym, subst, refl, [], Err, arith}
use Rattle.fx_outside.specs.declared.doors.DoorError.TheVariants as door
use Rattle.std.specs.Prelude.{IsTrue}
use Rattle.fx_outside.proofs.AlikeLemmas.{alike}
use Rattle.fx_local.specs.Counts.{CountsDoor}
use Rattle.fx_local.specs.Serving.{IsServingReported, once_more}
use Rattle.fx_local.specs.ServingSteps.{end_line}
use Rattle.fx_local.specs.declared.statuses.Status.{Status}
use Rattle.fx_local.proofs.CountLemmas.{door_later, end_counts}
use Rattle.fx_local.proofs.GainLemmas.{gains_alone}
use Rattle.fx_local.proofs.ServingLemmas.{not_opened, ended, ends_otherwise, opened_reported}
use Rattle.fx_local.proofs.serving.serve_store.Goals as goal

pub returns-in-Err-clause-reported : goal.returns-in-Err-clause-reported
returns-in-Err-clause-reported g c =
    let before = g.D.Door.seen c.args.door.now in
    let after = g.D.Door.seen c.start.new.self in
    let e = c.in-Err.error in (
      [],
      end_line e,
      subst (λ (s : Status). IsServingReported before after (once_more before c.args.address.now) c.args.count c.args.store.now s [] (end_line e)) (sym c.end.ensures.status)
          (ended before after (once_more before c.args.address.now) c.args.count c.args.store.now e [] (end_line e) (λ is. let more = c.in-Err.ensures.counted (ap Err is) in omega (arith, more)) (not_opened c.args.store.now before after (once_more before c.args.address.now) c.args.count (end_line e) (λ tells. c.in-Err.ensures.unstarted tells) c.in-Err.ensures.outputs c.in-Err.ensures.inputs)),
      λ told. gains_alone _ _ _ _ (end_line e) (c.end.ensures.line told),
      λ is. absurd (ends_otherwise e (sym c.end.ensures.status ∙ is)),
    )

pub returns-in-Ok-clause-reported : goal.returns-in-Ok-clause-reported
returns-in-Ok-clause-reported g c =
    let see = g.D.Door.seen in
    let given = c.serve.ensures.reported in (
      given.0,
      given.1,
      opened_reported c.args.store.now (see c.args.door.now) (see c.start.new.self) (see c.serve.new.door) c.args.address.now (λ tells. subst IsTrue (alike g.met.D.Door.told c.args.door.now c.start.new.self) tells) c.in-Ok.ensures.started c.in-Ok.ensures.outputs c.in-Ok.ensures.inputs c.in-Ok.ensures.kept c.args.count c.serve.result given.0 given.1 given.2,
      given.3,
      given.4,
    )

pub returns-in-Err-clause-door_faults : goal.returns-in-Err-clause-door_faults
returns-in-Err-clause-door_faults g c =
    let see = g.D.Door.seen in
    subst (λ (s : Status). CountsDoor s (see c.args.door.now).faults (see c.start.new.self).faults) (sym c.end.ensures.status)
    (end_counts (see c.args.door.now).faults (see c.args.door.now).faults (see c.start.new.self).faults c.in-Err.error refl (λ is. c.in-Err.ensures.counted (ap Err is)) (λ not. c.in-Err.ensures.faultless (λ is. let same : c.in-Err.error ≡ door.Failed = cc in not same)))

pub returns-in-Ok-clause-door_faults : goal.returns-in-Ok-clause-door_faults
returns-in-Ok-clause-door_faults g c =
    let see = g.D.Door.seen in
    door_later c.serve.result (see c.args.door.now).faults (see c.start.new.self).faults (see c.serve.new.door).faults (c.in-Ok.ensures.faultless (λ failed. cc)) c.serve.ensures.door_faults
