use Rattle.std.proofs.Common.{◌<◌, length, map, take}
use Rattle.fx_side_by_side.specs.SideBySide.{RunsFlowed}
use Rattle.fx_alone.proofs.runs.ask_each.Given as goal

abbrev pub invariant-loop-units : goal.invariant-loop-units
invariant-loop-units g l = record {
  wired : 0 < length l.wires;
  so_far : RunsFlowed g.W.Wire.tells_log g.W.Wire.counts_alone (map g.W.Wire.seen l.initial.wires) (map g.W.Wire.seen l.wires) l.endpoints (take l.units-index l.runs) l.block l.found.items;
}
