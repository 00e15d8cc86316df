use Rattle.std.proofs.Common.{◌≡◌, map, take, All, IsTrue}
use Rattle.fx_algebra.specs.Solutions.{rises}
use Rattle.fx_solutions.specs.Ranks as spec
use Rattle.fx_solutions.proofs.ranked_rows.ranked_rows.Given as goal

abbrev pub invariant-loop-row : goal.invariant-loop-row
invariant-loop-row l = record {
  ranked : l.all.items ≡ map (spec.ranked l.orders) (take l.row-index l.rows);
  rise : All (λ s. IsTrue (rises s)) (take l.row-index l.rows);
}
