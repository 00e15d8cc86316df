use Rattle.std.proofs.Common.{◌≡◌, map, take, All, IsTrue}
use Rattle.fx_algebra.specs.Solutions.{rises}
use Rattle.fx_algebra.specs.Sequences.{projected}
use Rattle.fx_solutions.proofs.sequences.project.Given as goal

abbrev pub invariant-loop-row : goal.invariant-loop-row
invariant-loop-row l = record {
  projected : l.parts.items ≡ map (projected l.columns) (take l.row-index l.rows);
  rise : All (λ s. IsTrue (rises s)) (take l.row-index l.rows);
}
