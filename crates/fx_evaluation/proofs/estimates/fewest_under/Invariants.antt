use Rattle.std.proofs.Common.{◌<◌, IfSome, length}
use Rattle.fx_evaluation.proofs.estimates.fewest_under.Given as goal

-- where a pattern was counted, there is one
abbrev pub invariant-loop-pattern : goal.invariant-loop-pattern
invariant-loop-pattern l = IfSome l.fewest (λ _. 0 < length l.patterns)
