use Rattle.std.proofs.Common.{◌≡◌, ◌∙◌, [], cond, ap, Some, inl, inr}
use Rattle.std.specs.List.{zip}
use Rattle.fx_keys.specs.Probes.{same_probe}
use Rattle.fx_sources.specs.Probes as spec
use Rattle.fx_sources.proofs.EntryLemmas.{truth_put, no_pair, all_put}
use Rattle.fx_sources.proofs.choices.answers.Goals as goal

pub loop-probe-preserved : goal.loop-probe-preserved
loop-probe-preserved c =
    let left = c.in-Some.ensures.steps in
    λ p.
    truth_put c.in-Some.probe.now p c.in-Some.truth.now c.loop-probe.probe-iterator.a.rest.now c.next.new.self.a.rest.now c.loop-probe.probe-iterator.b.rest.now c.next.new.self.b.rest.now c.loop-probe.answers.entries
    c.insert.new.self.entries _ left.0 left.1
    (c.in_ok-insert.ensures.updates.0 p ∙ ap (λ q. cond (same_probe q p) (Some c.in-Some.truth.now) (spec.known c.loop-probe.answers.entries p)) c.in_ok-copy.ensures)
    (c.loop-probe.invariant p)

pub returns : goal.returns
returns c =
    let left : zip c.loop-probe.probe-iterator.a.rest.now c.loop-probe.probe-iterator.b.rest.now ≡ [] = no_pair _ _ (elim c.in-None.ensures.steps [ inl h ↦ inl h.1.0 | inr h ↦ inr h.1.0 ]) in
    λ p. all_put p _ _ c.loop-probe.answers.entries _ left (c.loop-probe.invariant p)
