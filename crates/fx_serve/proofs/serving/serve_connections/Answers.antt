use Rattle.std.proofs.Common.{◌≡◌, ◌∙◌, ap, sym, subst, refl, ℕ, List, ◌+◌, ◌++◌, [], Err, inl, arith}
use Rattle.fx_outside.specs.declared.doors.DoorError.TheVariants as door
use Rattle.fx_outside.specs.Streams.{AppendsPart}
use Rattle.fx_outside.proofs.AlikeLemmas.{alike}
use Rattle.fx_pool.proofs.WiresLemmas.{all_tell}
use Rattle.fx_local.specs.Counts.{CountsDoor}
use Rattle.fx_local.specs.Serving.{ending_line}
use Rattle.fx_local.specs.ServingSteps.{end_line}
use Rattle.fx_local.specs.declared.statuses.Status.{Status}
use Rattle.fx_local.proofs.CountLemmas.{end_counts}
use Rattle.fx_local.proofs.GainLemmas.{gains_behind, gains_none}
use Rattle.fx_local.proofs.ServingLemmas.{done_otherwise, ends_otherwise}
use Rattle.fx_serve.specs.Connections.{known_of, lines_from, members_of}
use Rattle.fx_serve.specs.Serving.{IsServingReported}
use Rattle.fx_serve.proofs.ServingLemmas.{begin, cut, done, ended, next, still_wired, unwritten}
use Rattle.fx_serve.proofs.serving.serve_connections.Goals as goal

pub loop-number-init : goal.loop-number-init
loop-number-init g c =
    begin (members_of g.W.Wire c.args.service.members.now c.args.service.asked.block) (known_of g.W.Wire c.args.wires.now c.args.cache.now) (g.D.Door.seen c.args.door.now) g.E.Ends.tells_held (g.E.Ends.held c.args.err.now) (g.E.Ends.write_faults c.args.err.now)

pub loop-number-preserved : goal.loop-number-preserved
loop-number-preserved g c =
    let m = members_of g.W.Wire c.args.service.members.now c.args.service.asked.block in
    let first = known_of g.W.Wire c.args.wires.now c.args.cache.now in
    let now = known_of g.W.Wire c.loop-number.wires c.loop-number.cache in
    let later = known_of g.W.Wire c.serve_next.new.wires c.serve_next.new.cache in
    next m first (g.D.Door.seen c.args.door.now) g.E.Ends.tells_held (g.E.Ends.held c.args.err.now) (g.E.Ends.write_faults c.args.err.now) now later (g.D.Door.seen c.loop-number.door) (g.D.Door.seen c.serve_next.new.door) (g.E.Ends.held c.loop-number.err) (g.E.Ends.write_faults c.loop-number.err) c.loop-number.number c.loop-number.invariant (alike g.met.D.Door.told c.loop-number.door c.args.door.now)
    c.in-Ok.served c.in-Ok.ensures.served (g.E.Ends.held c.write_served.new.err) (g.E.Ends.write_faults c.write_served.new.err) c.in-Ok.ensures.started (c.in-Ok.ensures.faultless (λ failed. cc)) (λ told. c.in-Ok-write_served.ensures.whole told) c.in-Ok-write_served.ensures.faultless

pub serve_next-requires-clause-wired : goal.serve_next-requires-clause-wired
serve_next-requires-clause-wired g c = λ κs within.
    let m = members_of g.W.Wire c.args.service.members.now c.args.service.asked.block in
    let laws = g.met.W.Wire g.world.𝓛 g.world.𝓜 g.world.𝓡 ((λ s x. x), (λ x. x), (λ x. x), λ x. x) in
    still_wired g.W.Wire.seen m c.args.cache.now c.loop-number.cache c.args.wires.now c.loop-number.wires c.loop-number.invariant.connections (all_tell g.W.Wire.seen g.W.Wire.tells_log laws.told c.args.wires.now) c.loop-number.invariant.served c.requires.wired

pub returns-in-Err-write_served-clause-reported : goal.returns-in-Err-write_served-clause-reported
returns-in-Err-write_served-clause-reported g c =
    let m = members_of g.W.Wire c.args.service.members.now c.args.service.asked.block in
    let first = known_of g.W.Wire c.args.wires.now c.args.cache.now in
    let now = known_of g.W.Wire c.loop-number.wires c.loop-number.cache in
    let later = known_of g.W.Wire c.serve_next.new.wires c.serve_next.new.cache in
    let laws = g.met.W.Wire g.world.𝓛 g.world.𝓜 g.world.𝓡 ((λ s x. x), (λ x. x), (λ x. x), λ x. x) in
    let all_alike = all_tell g.W.Wire.seen g.W.Wire.tells_log laws.told c.args.wires.now in
    let so = c.loop-number.invariant in
    let last = ending_line (c.loop-number.number + 1) c.in-Ok.served.ending ++ c.in-Ok.served.lines.items in (
      lines_from m.endpoints 1 so.connections,
      last,
      unwritten m first (g.D.Door.seen c.args.door.now) g.E.Ends.tells_held (g.E.Ends.held c.args.err.now) (g.E.Ends.write_faults c.args.err.now) now later (g.D.Door.seen c.loop-number.door) (g.D.Door.seen c.serve_next.new.door) (g.E.Ends.held c.loop-number.err) (g.E.Ends.write_faults c.loop-number.err) c.loop-number.number so (alike g.met.D.Door.told c.loop-number.door c.args.door.now)
          c.in-Ok.served c.in-Ok.ensures.served c.args.service.asked.count c.loop-number-test.true all_alike c.in-Ok.ensures.started,
      λ told. gains_behind _ _ _ _ (g.E.Ends.write_faults c.loop-number.err) _ (lines_from m.endpoints 1 so.connections) last (so.lines told) so.faultless (record { front = c.in-Err-write_served.ensures.front told; whole = λ not. absurd (not (c.in-Err-write_served.ensures.failed refl)) }),
      λ is told. subst (λ (held : List ℕ). AppendsPart held (g.E.Ends.held c.write_served.new.err) last) (so.lines told) (c.in-Err-write_served.ensures.part told),
    )

pub returns-in-Err-clause-reported : goal.returns-in-Err-clause-reported
returns-in-Err-clause-reported g c =
    let before = g.D.Door.seen c.args.door.now in
    let after = g.D.Door.seen c.serve_next.new.door in
    let m = members_of g.W.Wire c.args.service.members.now c.args.service.asked.block in
    let first = known_of g.W.Wire c.args.wires.now c.args.cache.now in
    let now = known_of g.W.Wire c.loop-number.wires c.loop-number.cache in
    let later = known_of g.W.Wire c.serve_next.new.wires c.serve_next.new.cache in
    let laws = g.met.W.Wire g.world.𝓛 g.world.𝓜 g.world.𝓡 ((λ s x. x), (λ x. x), (λ x. x), λ x. x) in
    let all_alike = all_tell g.W.Wire.seen g.W.Wire.tells_log laws.told c.args.wires.now in
    let so = c.loop-number.invariant in
    let e = c.in-Err.error in
    let lines = lines_from m.endpoints 1 so.connections in (
      lines,
      end_line e,
      subst (λ (s : Status). IsServingReported m before after before.started c.args.service.asked.count first later s lines (end_line e)) (sym c.end.ensures.status)
          (ended m before after before.started c.args.service.asked.count first later e lines (end_line e) (λ is. omega (arith, so.unfailed, c.in-Err.ensures.counted (ap Err is)))
          (cut m first before g.E.Ends.tells_held (g.E.Ends.held c.args.err.now) (g.E.Ends.write_faults c.args.err.now) now later (g.D.Door.seen c.loop-number.door) after (g.E.Ends.held c.loop-number.err) (g.E.Ends.write_faults c.loop-number.err) c.loop-number.number so (alike g.met.D.Door.told c.loop-number.door c.args.door.now) e c.in-Err.ensures.served c.args.service.asked.count c.loop-number-test.true all_alike c.in-Err.ensures.started (end_line e))),
      λ told. gains_behind _ _ _ _ _ _ lines (end_line e) (so.lines told) so.faultless (c.end.ensures.line told),
      λ is. absurd (ends_otherwise e (sym c.end.ensures.status ∙ is)),
    )

pub returns-clause-reported : goal.returns-clause-reported
returns-clause-reported g c =
    let m = members_of g.W.Wire c.args.service.members.now c.args.service.asked.block in
    let first = known_of g.W.Wire c.args.wires.now c.args.cache.now in
    let now = known_of g.W.Wire c.loop-number.wires c.loop-number.cache in
    let laws = g.met.W.Wire g.world.𝓛 g.world.𝓜 g.world.𝓡 ((λ s x. x), (λ x. x), (λ x. x), λ x. x) in
    let all_alike = all_tell g.W.Wire.seen g.W.Wire.tells_log laws.told c.args.wires.now in
    let so = c.loop-number.invariant in
    let lines = lines_from m.endpoints 1 so.connections in (
      lines,
      [],
      done m first (g.D.Door.seen c.args.door.now) g.E.Ends.tells_held (g.E.Ends.held c.args.err.now) (g.E.Ends.write_faults c.args.err.now) now (g.D.Door.seen c.loop-number.door) (g.E.Ends.held c.loop-number.err) (g.E.Ends.write_faults c.loop-number.err) c.loop-number.number so c.args.service.asked.count
          (omega (arith, c.loop-number-test.false, c.loop-number.auto.number-end)) all_alike,
      λ told. gains_none _ _ _ _ lines (so.lines told),
      λ is. absurd (done_otherwise is),
    )

pub returns-in-Err-write_served-clause-door_faults : goal.returns-in-Err-write_served-clause-door_faults
returns-in-Err-write_served-clause-door_faults g c = inl (c.in-Ok.ensures.faultless (λ failed. cc) ∙ c.loop-number.invariant.unfailed)

pub returns-in-Err-clause-door_faults : goal.returns-in-Err-clause-door_faults
returns-in-Err-clause-door_faults g c =
    let see = g.D.Door.seen in
    subst (λ (s : Status). CountsDoor s (see c.args.door.now).faults (see c.serve_next.new.door).faults) (sym c.end.ensures.status)
    (end_counts (see c.args.door.now).faults (see c.loop-number.door).faults (see c.serve_next.new.door).faults c.in-Err.error c.loop-number.invariant.unfailed (λ is. c.in-Err.ensures.counted (ap Err is)) (λ not. c.in-Err.ensures.faultless (λ is. let same : c.in-Err.error ≡ door.Failed = cc in not same)))

pub returns-clause-door_faults : goal.returns-clause-door_faults
returns-clause-door_faults g c = inl c.loop-number.invariant.unfailed
