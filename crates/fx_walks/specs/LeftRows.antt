-- The rows on the left of an OPTIONAL, each with what was found under its number.
use Rattle.std.specs.Prelude.{ℕ, List, [], ◌∷◌, ◌++◌}
use Rattle.std.proofs.Common.{zero, suc}
use Rattle.fx_algebra.specs.Operators.{filtered, or_itself}
use Rattle.fx_algebra.specs.Solutions.{Bindings}
use Rattle.fx_algebra.specs.declared.expressions.Expr.{Expr}
use Rattle.fx_algebra.specs.declared.units.Row.{Row}
use Rattle.fx_steps.specs.Optionals.{behind}
use Rattle.fx_walks.specs.declared.optionals.LeftRow.{LeftRow}

abbrev pub pair_of : LeftRow → Bindings × List Bindings
pair_of r = (r.row, r.found.items)

abbrev pub with_none : Bindings → Bindings × List Bindings
with_none s = (s, [])

-- what was found for a row, or the row itself
abbrev pub rows_of : Bindings × List Bindings → List Bindings
rows_of p = or_itself p.0 p.1

-- each row, numbered from a number on, with what was found under its number on which the conditions hold
abbrev pub kept : List Expr → ℕ → List Bindings → List Row → List (Bindings × List Bindings)
kept conditions number [] found = []
kept conditions number (s ∷ left) found = (s, filtered conditions (behind number found)) ∷ kept conditions (suc number) left found

-- with a solution more behind those of the row at a place, if there is one
abbrev pub with_found : Bindings → ℕ → List (Bindings × List Bindings) → List (Bindings × List Bindings)
with_found s at [] = []
with_found s zero (p ∷ ps) = (p.0, p.1 ++ s ∷ []) ∷ ps
with_found s (suc at) (p ∷ ps) = p ∷ with_found s at ps
