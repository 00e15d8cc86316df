use Rattle.std.proofs.Common.{◌<◌, All, List, Result, length, map}
use Rattle.fx_algebra.specs.declared.units.Row.{Row}
use Rattle.fx_spelling.specs.Units.{IsFit}
use Rattle.fx_wire.specs.Exchanges.{Seen}
use Rattle.fx_flows.specs.RunFlows.{RunFlowed}
use Rattle.fx_flows.specs.declared.flows.FlowError.{FlowError}
use Rattle.fx_alone.proofs.runs.ask_units.Given as goal

abbrev pub decreases-loop-unit : goal.decreases-loop-unit
decreases-loop-unit g l = length l.left

-- whatever comes of the units that are left is what comes of all of them
abbrev pub invariant-loop-unit : goal.invariant-loop-unit
invariant-loop-unit g l = record {
  wired : 0 < length l.wires;
  fit : All IsFit l.left;
  within : All (λ u. All (λ at. at < length l.endpoints) u.members) l.left;
  so_far : (after : List Seen) (result : Result (List Row) FlowError)
      → RunFlowed g.W.Wire.tells_log g.W.Wire.counts_alone (map g.W.Wire.seen l.wires) after l.endpoints l.left l.block l.entering.items result
      → RunFlowed g.W.Wire.tells_log g.W.Wire.counts_alone (map g.W.Wire.seen l.initial.wires) after l.endpoints l.units l.block l.fn.rows.items result;
}
