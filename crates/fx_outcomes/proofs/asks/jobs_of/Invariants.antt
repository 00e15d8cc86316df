use Rattle.std.proofs.Common.{◌≡◌, map, take}
use Rattle.fx_outcomes.specs.AskSteps as spec
use Rattle.fx_outcomes.proofs.asks.jobs_of.Given as goal

abbrev pub invariant-loop-probe : goal.invariant-loop-probe
invariant-loop-probe l = l.jobs.items ≡ map spec.job_of (take l.probe-index l.probes)
