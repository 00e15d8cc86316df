use Rattle.std.proofs.Common.{◌-◌, ◌≤◌, Some, length, map}
use Rattle.fx_outcomes.proofs.AsksLemmas.{Begun}
use Rattle.fx_outcomes.proofs.asks.replies_to.Given as goal

abbrev pub invariant-loop-start : goal.invariant-loop-start
invariant-loop-start g l = record {
  within : l.start ≤ length l.probes;
  begun : Begun g.W.Wire.tells_log g.W.Wire.counts_alone l.endpoints (map g.W.Wire.seen l.initial.wires) (map g.W.Wire.seen l.wires) l.probes l.start (Some l.replies.items);
}

abbrev pub decreases-loop-start : goal.decreases-loop-start
decreases-loop-start g l = length l.probes - l.start
