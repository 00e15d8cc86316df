use Rattle.std.proofs.Common.{◌≡◌, filter}
use Rattle.fx_evaluation.specs.Conditions.{stays}
use Rattle.fx_evaluation.proofs.conditions.staying.Given as goal

abbrev pub invariant-loop-row : goal.invariant-loop-row
invariant-loop-row l = l.kept.items ≡ filter (stays l.condition) l.yielded
