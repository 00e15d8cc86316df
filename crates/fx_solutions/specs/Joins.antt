-- How a join finds the rows that may agree.
use Rattle.std.specs.Prelude.{ℕ, Bool, false, List, [], ◌∷◌, ◌&&◌, ◌==◌, filter, is_some, length}
use Rattle.std.specs.List.{flat_map, list_all}
use Rattle.std.specs.Ordering.{is_eq}
use Rattle.fx_algebra.specs.Operators.{merges}
use Rattle.fx_algebra.specs.Sequences.{row_cmp}
use Rattle.fx_algebra.specs.Solutions.{Bindings, term_of}
use Rattle.fx_algebra.specs.declared.expressions.Expr.{Expr}
use Rattle.fx_algebra.specs.Operators.{stays, matches_or_itself}

-- whether there is one row, which binds nothing
abbrev pub is_one_empty : List Bindings → Bool
is_one_empty (row ∷ []) = length row == 0
is_one_empty _ = false

-- whether each row binds a name
abbrev pub is_bound_in : List Bindings → List ℕ → Bool
is_bound_in rows name = list_all (λ row. is_some (term_of row name)) rows

-- whether each row of both sides binds a name
abbrev pub is_shared : List Bindings → List Bindings → List ℕ → Bool
is_shared left right name = is_bound_in left name && is_bound_in right name

-- the rows that have a row's terms under names
abbrev pub with_terms : List (List ℕ) → List Bindings → Bindings → List Bindings
with_terms names rows row = filter (λ r. is_eq (row_cmp names r row)) rows

-- each row of the left with those of the right that have its terms under the names and agree with it
abbrev pub merged : List (List ℕ) → List Bindings → List Bindings → List Bindings
merged names right left = flat_map (λ row. merges (with_terms names right row) row) left

-- each row of the left with what it matches among the rows of the right that have its terms under the names, or itself
abbrev pub matched : List Expr → List (List ℕ) → List Bindings → List Bindings → List Bindings
matched conditions names right left = flat_map (λ row. matches_or_itself conditions (with_terms names right row) row) left

-- the rows that none of the rows with their terms under the names removes
abbrev pub kept : List (List ℕ) → List Bindings → List Bindings → List Bindings
kept names right left = filter (λ row. stays (with_terms names right row) row) left
