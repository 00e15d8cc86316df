use Rattle.std.proofs.Common.{All}
use Rattle.fx_side_by_side.specs.SideBySide.{CanAsk}
use Rattle.fx_pool_cases.proofs.sides.runs_of.Given as goal

abbrev pub invariant-loop-text : goal.invariant-loop-text
invariant-loop-text l = All (CanAsk l.count) l.runs.items
