use Rattle.std.proofs.Common.{take, All, IsTrue}
use Rattle.fx_algebra.specs.Solutions.{rises}
use Rattle.fx_solutions.proofs.known_rows.known_to_rise.Given as goal

abbrev pub invariant-loop-row : goal.invariant-loop-row
invariant-loop-row l = All (λ s. IsTrue (rises s)) (take l.row-index l.rows)
