use Rattle.std.proofs.Common.{◌≡◌, take}
use Rattle.fx_steps.specs.Steps.{numbered}
use Rattle.fx_alone.proofs.runs.number.Given as goal

abbrev pub invariant-loop-solution : goal.invariant-loop-solution
invariant-loop-solution l = l.rows.items ≡ numbered 0 (take l.solution-index l.solutions)
