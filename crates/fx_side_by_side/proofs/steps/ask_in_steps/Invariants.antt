use Rattle.std.proofs.Common.{◌≡◌, ◌<◌, ◌≤◌, length, map}
use Rattle.fx_flows.specs.Flows.{rows_in}
use Rattle.fx_side_by_side.specs.SideBySide.{RunsFlowed}
use Rattle.fx_side_by_side.proofs.WalkLemmas.{up_to}
use Rattle.fx_side_by_side.proofs.steps.ask_in_steps.Given as goal

abbrev pub invariant-loop-step : goal.invariant-loop-step
invariant-loop-step g l = record {
  wired : (0 < length l.wires) × (length l.wires ≤ 16);
  many : length l.found ≡ length l.runs;
  so_far : RunsFlowed g.W.Wire.tells_log g.W.Wire.counts_alone (map g.W.Wire.seen l.initial.wires) (map g.W.Wire.seen l.wires) l.endpoints (up_to l.step l.runs) l.block (map rows_in l.found);
}
