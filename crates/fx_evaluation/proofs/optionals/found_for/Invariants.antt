use Rattle.std.proofs.Common.{◌≡◌, ◌∷◌, [], drop}
use Rattle.fx_algebra.specs.Evaluation.{rows_from}
use Rattle.fx_evaluation.proofs.optionals.found_for.Given as goal

-- the patterns that are left give of the rows what all give of the row
abbrev pub invariant-loop-pattern : goal.invariant-loop-pattern
invariant-loop-pattern l = rows_from l.store l.rows.items (drop l.pattern-index l.rest) ≡ rows_from l.store (l.row ∷ []) l.patterns
