use Rattle.std.proofs.Common.{inl, inr}
use Rattle.std.specs.List.{zip}
use Rattle.fx_outcomes.proofs.KeptLemmas.{known_all, known_one}
use Rattle.fx_outcomes.proofs.choices.answers_of_kept.Goals as goal

pub loop-probe-preserved : goal.loop-probe-preserved
loop-probe-preserved c =
    let left = c.in-Some.ensures.steps in
    known_one c.args.kept.now (zip c.args.answers.now.probes.items c.args.answers.now.truths.items) c.loop-probe.probes.items c.add_kept.new.probes.items c.loop-probe.truths.items c.add_kept.new.truths.items
    c.in-Some.probe.now c.in-Some.truth.now c.loop-probe.probe-iterator.a.rest.now c.loop-probe.probe-iterator.b.rest.now c.next.new.self.a.rest.now c.next.new.self.b.rest.now left.0 left.1
    c.in_ok-add_kept.ensures.probes c.in_ok-add_kept.ensures.truths c.loop-probe.invariant

pub returns : goal.returns
returns c =
    let both = known_all c.args.kept.now (zip c.args.answers.now.probes.items c.args.answers.now.truths.items) c.loop-probe.probes.items c.loop-probe.truths.items
    c.loop-probe.probe-iterator.a.rest.now c.loop-probe.probe-iterator.b.rest.now (elim c.in-None.ensures.steps [ inl h ↦ inl h.1.0 | inr h ↦ inr h.1.0 ]) c.loop-probe.invariant in
    record { probes = both.0; truths = both.1 }
