-- The order of rows (SPARQL 1.1 sections 15 and 18.2.5), in this project's profile: rows that nothing else orders come in
-- the order of the projected row, so an answer is one list.
use Rattle.std.specs.Prelude.{◌≡◌, ℕ, Bool, true, false, List, [], ◌∷◌, ◌++◌, map, filter, fold, take, drop, Option, Some, None, if◌then◌else◌, All, IsTrue}
use Rattle.std.specs.List.{list_any}
use Rattle.std.specs.Option.{option_to_list}
use Rattle.std.specs.declared.cmp.Ordering.{Ordering}
use Rattle.std.specs.Ordering.{on, is_le, is_eq}
use Rattle.std.specs.Cmp.{IsTotalOrder}
use Rattle.std.specs.Cmp.Lexicographic.{slice_cmp}
use Rattle.std.proofs.lemmas.Cmp.{on_total, lists_total}
use Rattle.fx_terms.specs.Terms.{term_cmp, terms_total}
use Rattle.fx_terms.specs.declared.terms.Term.{Term}
use Rattle.fx_algebra.specs.Solutions.{Bindings, term_of, rises, SameRows}
use Rattle.fx_algebra.specs.Scopes.{is_among}

-- the pairs whose names are columns
abbrev pub projected : List (List ℕ) → Bindings → Bindings
projected columns s = filter (λ e. is_among columns e.0) s

-- the terms of a row under the columns
abbrev pub cells : List (List ℕ) → Bindings → List (Option Term)
cells columns s = map (term_of s) columns

-- unbound before a term, and terms by their order
abbrev pub cell_cmp : Option Term → Option Term → Ordering
cell_cmp = on option_to_list (slice_cmp term_cmp)

-- column by column
abbrev pub row_cmp : List (List ℕ) → Bindings → Bindings → Ordering
row_cmp columns = on (cells columns) (slice_cmp cell_cmp)

pub cells_total : IsTotalOrder cell_cmp
cells_total = on_total option_to_list (lists_total terms_total)

pub rows_total : (columns : List (List ℕ)) → IsTotalOrder (row_cmp columns)
rows_total columns = on_total (cells columns) (lists_total cells_total)

-- before the first that it is not above
unfoldable pub insert_by : {X : Type 0} → (X → X → Ordering) → X → List X → List X
insert_by R x [] = x ∷ []
insert_by R x (y ∷ ys) = if is_le (R x y) then x ∷ y ∷ ys else y ∷ insert_by R x ys

-- the elements of a list in order
unfoldable pub sorted_by : {X : Type 0} → (X → X → Ordering) → List X → List X
sorted_by R [] = []
sorted_by R (x ∷ xs) = insert_by R x (sorted_by R xs)

-- each row once, at its first place
abbrev pub with_row : List (List ℕ) → List Bindings → Bindings → List Bindings
with_row columns rows row = if list_any (λ r. is_eq (row_cmp columns r row)) rows then rows else rows ++ row ∷ []

abbrev pub distinct_rows : Bool → List (List ℕ) → List Bindings → List Bindings
distinct_rows true columns rows = fold (with_row columns) [] rows
distinct_rows false columns rows = rows

abbrev pub limited : Option ℕ → List Bindings → List Bindings
limited (Some limit) rows = take limit rows
limited None rows = rows

-- the projected rows in their order
abbrev pub ordered : List (List ℕ) → List Bindings → List Bindings
ordered columns rows = sorted_by (row_cmp columns) (map (projected columns) rows)

-- the rows of an answer without order keys: in order, projected, each once where DISTINCT is set, without the OFFSET rows
-- in front, and LIMIT rows at most
abbrev pub sequence : Bool → List (List ℕ) → ℕ → Option ℕ → List Bindings → List Bindings
sequence distinct columns offset limit rows = limited limit (drop offset (distinct_rows distinct columns (ordered columns rows)))

-- the same rows, however they arrived, give one sequence
abbrev pub OneSequence : Type 0
OneSequence = (distinct : Bool) (columns : List (List ℕ)) (offset : ℕ) (limit : Option ℕ) (a b : List Bindings) → All (λ s. IsTrue (rises s)) a → SameRows a b → sequence distinct columns offset limit a ≡ sequence distinct columns offset limit b
