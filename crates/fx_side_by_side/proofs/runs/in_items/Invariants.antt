use Rattle.std.proofs.Common.{◌≡◌, ◌++◌, map}
use Rattle.fx_flows.specs.Flows.{rows_in}
use Rattle.fx_side_by_side.proofs.runs.in_items.Given as goal

abbrev pub invariant-loop-one : goal.invariant-loop-one
invariant-loop-one l = record {
  whole : l.yielded ++ l.one-iterator.rest.items ≡ l.fn.found.items;
  all : l.all.items ≡ map rows_in l.yielded;
}
