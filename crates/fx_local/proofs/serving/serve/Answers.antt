use Rattle.std.proofs.Common.{◌≡◌, ◌∙◌, ap, sym, subst, refl, ℕ, List, ◌+◌, [], Err, inl, arith}
use Rattle.fx_outside.specs.declared.doors.DoorError.TheVariants as door
use Rattle.fx_outside.specs.Streams.{AppendsPart}
use Rattle.fx_outside.proofs.AlikeLemmas.{alike}
use Rattle.fx_local.specs.Counts.{CountsDoor}
use Rattle.fx_local.specs.Serving.{ending_line, ending_lines, IsServingReported}
use Rattle.fx_local.specs.ServingSteps.{end_line}
use Rattle.fx_local.specs.declared.statuses.Status.{Status}
use Rattle.fx_local.proofs.CountLemmas.{end_counts}
use Rattle.fx_local.proofs.GainLemmas.{gains_behind, gains_none}
use Rattle.fx_local.proofs.ServingLemmas.{first, next, unwritten, cut, done_otherwise, ended, ends_otherwise}
use Rattle.fx_local.proofs.serving.serve.Goals as goal

pub loop-number-init : goal.loop-number-init
loop-number-init g c = first c.args.store.now (g.D.Door.seen c.args.door.now) g.E.Ends.tells_held (g.E.Ends.held c.args.err.now) (g.E.Ends.write_faults c.args.err.now)

pub loop-number-preserved : goal.loop-number-preserved
loop-number-preserved g c =
    next c.args.store.now (g.D.Door.seen c.args.door.now) g.E.Ends.tells_held (g.E.Ends.held c.args.err.now) (g.E.Ends.write_faults c.args.err.now) (g.D.Door.seen c.loop-number.door) (g.D.Door.seen c.serve_next.new.door) (g.E.Ends.held c.loop-number.err) (g.E.Ends.write_faults c.loop-number.err) c.loop-number.number c.loop-number.invariant (alike g.met.D.Door.told c.loop-number.door c.args.door.now)
    c.in-Ok.ending (g.E.Ends.held c.write_ending.new.err) (g.E.Ends.write_faults c.write_ending.new.err) c.in-Ok.ensures.ended c.in-Ok.ensures.started (c.in-Ok.ensures.faultless (λ failed. cc)) (λ told. c.in-Ok-write_ending.ensures.whole told) c.in-Ok-write_ending.ensures.faultless

pub returns-in-Err-write_ending-clause-reported : goal.returns-in-Err-write_ending-clause-reported
returns-in-Err-write_ending-clause-reported g c =
    let so = c.loop-number.invariant in
    let last = ending_line (c.loop-number.number + 1) c.in-Ok.ending in (
      ending_lines 1 so.endings,
      last,
      unwritten c.args.store.now (g.D.Door.seen c.args.door.now) g.E.Ends.tells_held (g.E.Ends.held c.args.err.now) (g.E.Ends.write_faults c.args.err.now) (g.D.Door.seen c.loop-number.door) (g.D.Door.seen c.serve_next.new.door) (g.E.Ends.held c.loop-number.err) (g.E.Ends.write_faults c.loop-number.err) c.loop-number.number so (alike g.met.D.Door.told c.loop-number.door c.args.door.now) c.args.count c.loop-number-test.true c.in-Ok.ending c.in-Ok.ensures.ended c.in-Ok.ensures.started,
      λ told. gains_behind _ _ _ _ (g.E.Ends.write_faults c.loop-number.err) _ (ending_lines 1 so.endings) last (so.lines told) so.faultless (record { front = c.in-Err-write_ending.ensures.front told; whole = λ not. absurd (not (c.in-Err-write_ending.ensures.failed refl)) }),
      λ is told. subst (λ (held : List ℕ). AppendsPart held (g.E.Ends.held c.write_ending.new.err) last) (so.lines told) (c.in-Err-write_ending.ensures.part told),
    )

pub returns-in-Err-clause-reported : goal.returns-in-Err-clause-reported
returns-in-Err-clause-reported g c =
    let before = g.D.Door.seen c.args.door.now in
    let after = g.D.Door.seen c.serve_next.new.door in
    let so = c.loop-number.invariant in
    let e = c.in-Err.error in
    let lines = ending_lines 1 so.endings in (
      lines,
      end_line e,
      subst (λ (s : Status). IsServingReported before after before.started c.args.count c.args.store.now s lines (end_line e)) (sym c.end.ensures.status)
          (ended before after before.started c.args.count c.args.store.now e lines (end_line e) (λ is. omega (arith, so.unfailed, c.in-Err.ensures.counted (ap Err is)))
          (cut c.args.store.now before g.E.Ends.tells_held (g.E.Ends.held c.args.err.now) (g.E.Ends.write_faults c.args.err.now) (g.D.Door.seen c.loop-number.door) after (g.E.Ends.held c.loop-number.err) (g.E.Ends.write_faults c.loop-number.err) c.loop-number.number so (alike g.met.D.Door.told c.loop-number.door c.args.door.now) c.args.count c.loop-number-test.true e c.in-Err.ensures.ended c.in-Err.ensures.started (end_line e))),
      λ told. gains_behind _ _ _ _ _ _ lines (end_line e) (so.lines told) so.faultless (c.end.ensures.line told),
      λ is. absurd (ends_otherwise e (sym c.end.ensures.status ∙ is)),
    )

pub returns-clause-reported : goal.returns-clause-reported
returns-clause-reported g c =
    let so = c.loop-number.invariant in
    (ending_lines 1 so.endings, [], (so.endings, so.serves, so.count ∙ omega (arith, c.loop-number-test.false, c.loop-number.auto.number-end), λ tells. so.started tells, refl, refl), λ told. gains_none _ _ _ _ (ending_lines 1 so.endings) (so.lines told), λ is. absurd (done_otherwise is))

pub returns-in-Err-write_ending-clause-door_faults : goal.returns-in-Err-write_ending-clause-door_faults
returns-in-Err-write_ending-clause-door_faults g c = inl (c.in-Ok.ensures.faultless (λ failed. cc) ∙ c.loop-number.invariant.unfailed)

pub returns-in-Err-clause-door_faults : goal.returns-in-Err-clause-door_faults
returns-in-Err-clause-door_faults g c =
    let see = g.D.Door.seen in
    subst (λ (s : Status). CountsDoor s (see c.args.door.now).faults (see c.serve_next.new.door).faults) (sym c.end.ensures.status)
    (end_counts (see c.args.door.now).faults (see c.loop-number.door).faults (see c.serve_next.new.door).faults c.in-Err.error c.loop-number.invariant.unfailed (λ is. c.in-Err.ensures.counted (ap Err is)) (λ not. c.in-Err.ensures.faultless (λ is. let same : c.in-Err.error ≡ door.Failed = cc in not same)))

pub returns-clause-door_faults : goal.returns-clause-door_faults
returns-clause-door_faults g c = inl c.loop-number.invariant.unfailed
