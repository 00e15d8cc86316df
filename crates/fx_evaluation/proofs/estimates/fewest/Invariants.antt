use Rattle.std.proofs.Common.{◌<◌, IfSome, length}
use Rattle.fx_evaluation.proofs.estimates.fewest.Given as goal

-- what was chosen so far is the place of a pattern
abbrev pub invariant-loop-place : goal.invariant-loop-place
invariant-loop-place l = IfSome l.best (λ outlook. outlook.place < length l.left)
