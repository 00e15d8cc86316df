use Rattle.std.proofs.Common.{◌<◌, ◌≤◌, ◌++◌, All, List, Ok, Err, length, map}
use Rattle.fx_algebra.specs.declared.units.Row.{Row}
use Rattle.fx_wire.specs.Exchanges.{Seen}
use Rattle.fx_flows.specs.Teams.{StepAsked}
use Rattle.fx_flows.specs.declared.flows.FlowError.{FlowError}
use Rattle.fx_flows.proofs.teams.ask_rounds.Given as goal

abbrev pub decreases-loop-left : goal.decreases-loop-left
decreases-loop-left g l = length l.left

-- whatever comes of the batches that are left is what comes of all of them, behind the rows that were made
abbrev pub invariant-loop-left : goal.invariant-loop-left
invariant-loop-left g l = record {
  wired : 0 < length l.wires;
  teams : (0 < l.teams) × (l.teams ≤ length l.wires);
  few : All (λ (rows : List Row). length rows ≤ 64) l.left;
  so_far : (after : List Seen) (more : List Row)
      → StepAsked g.W.Wire.tells_log g.W.Wire.counts_alone (map g.W.Wire.seen l.wires) after l.endpoints l.unit l.left (Ok more)
      → StepAsked g.W.Wire.tells_log g.W.Wire.counts_alone (map g.W.Wire.seen l.initial.wires) after l.endpoints l.unit l.batches (Ok (l.made.items ++ more));
  refused : (after : List Seen) (why : FlowError)
      → StepAsked g.W.Wire.tells_log g.W.Wire.counts_alone (map g.W.Wire.seen l.wires) after l.endpoints l.unit l.left (Err why)
      → StepAsked g.W.Wire.tells_log g.W.Wire.counts_alone (map g.W.Wire.seen l.initial.wires) after l.endpoints l.unit l.batches (Err why);
}
