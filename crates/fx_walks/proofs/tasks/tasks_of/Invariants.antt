use Rattle.std.proofs.Common.{◌≡◌, ◌++◌}
use Rattle.std.specs.Vec.Iter.{into_iter_items}
use Rattle.fx_walks.specs.Tasks.{tasks_with}
use Rattle.fx_walks.proofs.tasks.tasks_of.Given as goal

abbrev pub invariant-loop-part : goal.invariant-loop-part
invariant-loop-part l = record {
  whole : l.yielded ++ l.part-iterator.rest.items ≡ l.fn.plan.items;
  left : l.tasks.items ++ tasks_with l.part-iterator.rest.items (into_iter_items l.left) ≡ tasks_with l.fn.plan.items l.fn.found.items;
}
