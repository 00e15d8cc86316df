use Rattle.std.proofs.Common.{Some, take}
use Rattle.fx_pool.specs.Runs.{WireDid}
use Rattle.fx_alone.proofs.jobs.do_all.Given as goal

abbrev pub invariant-loop-job : goal.invariant-loop-job
invariant-loop-job g l = WireDid g.W.Wire.counts_alone (g.W.Wire.seen l.initial.wire) (g.W.Wire.seen l.wire) l.endpoints (take l.job-index l.jobs) (Some l.replies.items)
