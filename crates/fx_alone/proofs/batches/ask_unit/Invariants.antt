use Rattle.std.proofs.Common.{◌<◌, ◌++◌, ◌∷◌, [], List, Ok, Err, length, map}
use Rattle.fx_algebra.specs.declared.units.Row.{Row}
use Rattle.fx_traffic.specs.Batches.{AreCut}
use Rattle.fx_wire.specs.Exchanges.{Seen}
use Rattle.fx_flows.specs.RunFlows.{RunFlowed}
use Rattle.fx_flows.specs.Teams.{StepAsked}
use Rattle.fx_flows.specs.declared.flows.FlowError.{FlowError}
use Rattle.fx_alone.proofs.batches.ask_unit.Given as goal

abbrev pub decreases-loop-left : goal.decreases-loop-left
decreases-loop-left g l = length l.left

-- whatever comes of the batches of the rows that are left is what comes of those of all rows, behind what was made
abbrev pub invariant-loop-left : goal.invariant-loop-left
invariant-loop-left g l = record {
  wired : 0 < length l.wires;
  so_far : (after : List Seen) (batches : List (List Row)) (more : List Row)
      → AreCut l.left l.block batches
      → StepAsked g.W.Wire.tells_log g.W.Wire.counts_alone (map g.W.Wire.seen l.wires) after l.endpoints l.unit batches (Ok more)
      → RunFlowed g.W.Wire.tells_log g.W.Wire.counts_alone (map g.W.Wire.seen l.initial.wires) after l.endpoints (l.unit ∷ []) l.block l.rows (Ok (l.made.items ++ more));
  refused : (after : List Seen) (batches : List (List Row)) (why : FlowError)
      → AreCut l.left l.block batches
      → StepAsked g.W.Wire.tells_log g.W.Wire.counts_alone (map g.W.Wire.seen l.wires) after l.endpoints l.unit batches (Err why)
      → RunFlowed g.W.Wire.tells_log g.W.Wire.counts_alone (map g.W.Wire.seen l.initial.wires) after l.endpoints (l.unit ∷ []) l.block l.rows (Err why);
}
