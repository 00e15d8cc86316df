use Rattle.std.proofs.Common.{◌-◌, ◌≤◌, Some, length, map}
use Rattle.fx_services.proofs.PieceLemmas.{Begun}
use Rattle.fx_services.proofs.beside.ask_services.Given as goal

abbrev pub invariant-loop-start : goal.invariant-loop-start
invariant-loop-start g l = record {
  within : l.start ≤ length l.asked;
  begun : Begun g.W.Wire.tells_log g.W.Wire.counts_alone l.registry (map g.W.Wire.seen l.initial.wires) (map g.W.Wire.seen l.wires) l.asked l.start (Some l.replies.items);
}

abbrev pub decreases-loop-start : goal.decreases-loop-start
decreases-loop-start g l = length l.asked - l.start
