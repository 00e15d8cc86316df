use Rattle.std.proofs.Common.{◌<◌, length, vec_len}
use Rattle.fx_evaluation.specs.Runs.{IsPart}
use Rattle.fx_evaluation.proofs.runs.part_at.Given as goal

-- what was taken so far are rows of some of the patterns
abbrev pub invariant-loop-place : goal.invariant-loop-place
invariant-loop-place l = record {
  part : IsPart l.store l.fn.patterns.items l.part.rows.items l.part.left.items;
  fewer : length l.part.left.items < length l.fn.patterns.items;
}

abbrev pub decreases-loop-place : goal.decreases-loop-place
decreases-loop-place l = vec_len l.part.left
