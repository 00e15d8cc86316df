use Rattle.std.proofs.Common.{◌≡◌}
use Rattle.fx_steps.specs.Steps.{solutions_of}
use Rattle.fx_engine.proofs.groups.solutions.Given as goal

abbrev pub invariant-loop-row : goal.invariant-loop-row
invariant-loop-row l = l.solutions.items ≡ solutions_of l.yielded
