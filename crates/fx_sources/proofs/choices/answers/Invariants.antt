use Rattle.std.proofs.Common.{◌≡◌, ◌++◌}
use Rattle.fx_keys.specs.declared.probes.Probe.{Probe}
use Rattle.fx_sources.specs.Probes as spec
use Rattle.fx_sources.proofs.choices.answers.Given as goal

-- what is left, in front of what was put in, says the truths
abbrev pub invariant-loop-probe : goal.invariant-loop-probe
invariant-loop-probe l = (p : Probe) → spec.known (spec.told l.probe-iterator.a.rest.now l.probe-iterator.b.rest.now ++ l.answers.entries) p ≡ spec.known (spec.told l.probes l.truths) p
