-- The operators of the algebra, on lists of solutions (SPARQL 1.1 sections 18.5 and 18.2.4.3).
use Rattle.std.specs.Prelude.{ℕ, Bool, not, ◌&&◌, List, [], ◌∷◌, ◌++◌, map, filter, fold, Option, Some, None, is_some}
use Rattle.std.specs.List.{flat_map, list_any, zip}
use Rattle.fx_terms.specs.declared.terms.Term.{Term}
use Rattle.fx_algebra.specs.Conditions.{holds}
use Rattle.fx_algebra.specs.Solutions.{Bindings, term_of, agree, merge, with_new}
use Rattle.fx_algebra.specs.Values.{value}
use Rattle.fx_algebra.specs.declared.expressions.Expr.{Expr}
use Rattle.fx_algebra.specs.declared.queries.Inline.{Inline}

-- what a row merges to with each of the rows that it agrees with
abbrev pub merges : List Bindings → Bindings → List Bindings
merges right a = map (merge a) (filter (agree a) right)

-- the merge of each pair that agrees
abbrev pub join : List Bindings → List Bindings → List Bindings
join left right = flat_map (merges right) left

-- the rows of both
abbrev pub union : List Bindings → List Bindings → List Bindings
union left right = left ++ right

-- the rows on which every condition holds
abbrev pub filtered : List Expr → List Bindings → List Bindings
filtered conditions rows = filter (holds conditions) rows

-- the rows that no row of the right agrees with so that the conditions hold on both together
abbrev pub diff : List Bindings → List Bindings → List Expr → List Bindings
diff left right conditions = filter (λ a. not (list_any (λ b. agree a b && holds conditions (merge a b)) right)) left

-- the rows of the join on which the conditions hold, and the rows of the left that have none
abbrev pub left_join : List Bindings → List Bindings → List Expr → List Bindings
left_join left right conditions = filtered conditions (join left right) ++ diff left right conditions

-- some name is bound in both
abbrev pub shares : Bindings → Bindings → Bool
shares a b = list_any (λ e. is_some (term_of b e.0)) a

-- a row agrees with another, and shares a name with it
abbrev pub is_removed_by : Bindings → Bindings → Bool
is_removed_by a b = agree a b && shares a b

-- no row of the others removes it
unfoldable pub stays : List Bindings → Bindings → Bool
stays others a = not (list_any (is_removed_by a) others)

-- the rows that no row of the right removes
abbrev pub minus : List Bindings → List Bindings → List Bindings
minus left right = filter (stays right) left

-- a name has the value, where that isn't the error and the name had no term before
abbrev pub with_value : Bindings → List ℕ → Option Term → Bindings
with_value s name (Some t) = with_new s (name, t)
with_value s name None = s

-- a row with the value that an expression has on it
unfoldable pub extended : List ℕ → Expr → Bindings → Bindings
extended name e s = with_value s name (value e s)

-- each row with the value that an expression has on it
abbrev pub extend : List Bindings → List ℕ → Expr → List Bindings
extend rows name e = map (extended name e) rows

-- a row that is written out: each cell under its column, where it isn't UNDEF; a column that stands twice has its first term
abbrev pub with_cell : Bindings → List ℕ × Option Term → Bindings
with_cell s c = with_value s c.0 c.1

abbrev pub inline_row : List (List ℕ) → List (Option Term) → Bindings
inline_row columns row = fold with_cell [] (zip columns row)

-- the rows of a block of solutions that are written out
abbrev pub inline_rows : Inline → List Bindings
inline_rows inline = map (inline_row inline.columns) inline.rows

-- ---- row by row

-- what a row and the others merge to where the conditions hold
abbrev pub matches : List Expr → List Bindings → Bindings → List Bindings
matches conditions others a = filtered conditions (merges others a)

-- these, or the row itself where there are none
abbrev pub or_itself : Bindings → List Bindings → List Bindings
or_itself a [] = a ∷ []
or_itself a (s ∷ found) = s ∷ found

unfoldable pub matches_or_itself : List Expr → List Bindings → Bindings → List Bindings
matches_or_itself conditions others a = or_itself a (matches conditions others a)
