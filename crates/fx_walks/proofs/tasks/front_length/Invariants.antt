use Rattle.std.proofs.Common.{◌≡◌, ◌+◌, drop, length}
use Rattle.fx_walks.specs.Tasks.{front_of}
use Rattle.fx_walks.proofs.tasks.front_length.Given as goal

abbrev pub invariant-loop-task : goal.invariant-loop-task
invariant-loop-task l = record {
  count : l.front ≡ l.task-index;
  rest : l.front + length (front_of (drop l.task-index l.tasks)) ≡ length (front_of l.tasks);
}
