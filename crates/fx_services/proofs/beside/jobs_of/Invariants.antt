use Rattle.std.proofs.Common.{◌≡◌, take}
use Rattle.fx_services.specs.Beside as spec
use Rattle.fx_services.proofs.beside.jobs_of.Given as goal

abbrev pub invariant-loop-occurrence : goal.invariant-loop-occurrence
invariant-loop-occurrence l = l.jobs.items ≡ spec.jobs_of l.registry (take l.occurrence-index l.asked)
