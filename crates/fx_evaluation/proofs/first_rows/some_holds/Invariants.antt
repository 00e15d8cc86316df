use Rattle.std.proofs.Common.{◌≡◌, drop}
use Rattle.fx_algebra.specs.Answers.{has_rows}
use Rattle.fx_algebra.specs.Operators.{filtered}
use Rattle.fx_evaluation.proofs.first_rows.some_holds.Given as goal

-- the rows that are left have one where all have
abbrev pub invariant-loop-row : goal.invariant-loop-row
invariant-loop-row l = has_rows (filtered l.conditions (drop l.row-index l.rows)) ≡ has_rows (filtered l.conditions l.rows)
