use Rattle.std.proofs.Common.{◌≡◌, map, take}
use Rattle.fx_flows.specs.Flows.{rows_in}
use Rattle.fx_side_by_side.specs.Steps.{begins}
use Rattle.fx_side_by_side.proofs.runs.begun.Given as goal

abbrev pub invariant-loop-units : goal.invariant-loop-units
invariant-loop-units l = map rows_in l.found.items ≡ begins (take l._units-index l.runs)
