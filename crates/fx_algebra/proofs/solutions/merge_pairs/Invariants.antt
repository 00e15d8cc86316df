use Rattle.std.proofs.Common.{◌≡◌, drop, fold}
use Rattle.fx_algebra.specs.Solutions.{with_new, merge}
use Rattle.fx_algebra.proofs.solutions.merge_pairs.Given as goal

-- what is left completes the merge
abbrev pub invariant-loop-pair : goal.invariant-loop-pair
invariant-loop-pair l = fold with_new l.both.items (drop l.pair-index l.right) ≡ merge l.left l.right
