use Rattle.std.proofs.Common.{◌≡◌, ◌++◌, drop}
use Rattle.fx_engine.specs.Together.{runs_in}
use Rattle.fx_engine.proofs.together.runs_of.Given as goal

abbrev pub invariant-loop-task : goal.invariant-loop-task
invariant-loop-task l = l.runs.items ++ runs_in (drop l.task-index l.its) ≡ runs_in l.its
