use Rattle.std.specs.List.{zip}
use Rattle.fx_outcomes.proofs.KeptLemmas.{Known}
use Rattle.fx_outcomes.proofs.choices.answers_of_kept.Given as goal

abbrev pub invariant-loop-probe : goal.invariant-loop-probe
invariant-loop-probe l = Known l.kept (zip l.answers.probes.items l.answers.truths.items) l.probes.items l.truths.items (zip l.probe-iterator.a.rest.now l.probe-iterator.b.rest.now)
