-- A block as it stands in a text, and what a row tells by its columns. That this is what the definitions say of a unit is proved.
use Rattle.std.specs.Prelude.{ℕ, Bool, not, ◌&&◌, ◌||◌, if◌then◌else◌, List, [], ◌∷◌, ◌++◌, map, filter, codes, Option, Some, is_none, Result, Ok, Err, pos}
use Rattle.std.specs.List.{flat_map, list_all, list_any}
use Rattle.fx_terms.specs.declared.terms.Term.{Term}
use Rattle.fx_algebra.specs.Operators.{with_value}
use Rattle.fx_algebra.specs.Printed.{Word, fixed, variable, in_brackets, row_words}
use Rattle.fx_algebra.specs.Scopes.{is_among}
use Rattle.fx_algebra.specs.Solutions.{Bindings, term_of}
use Rattle.fx_algebra.specs.Values.{integer}
use Rattle.fx_algebra.specs.declared.units.Row.{Row}
use Rattle.fx_algebra.specs.declared.units.Unit as unit
use Rattle.fx_values.specs.Reading.{is_own, is_that}
use Rattle.fx_values.specs.Texts.{unit_words}
use Rattle.fx_values.specs.declared.columns.Columns.{Columns}
use Rattle.fx_values.specs.declared.faults.RowFault.{RowFault}
use Rattle.fx_values.specs.declared.faults.RowFault.TheVariants.{Foreign, Partial, Mixed}
use Rattle.fx_values.specs.declared.located.Located.{Located}

-- ---- columns

abbrev pub others : List (List ℕ × List ℕ) → List (List ℕ)
others sent = map (λ e. e.0) sent

abbrev pub all : Columns → List (List ℕ)
all c = c.number ∷ others c.sent

-- ---- words

abbrev pub column_words : Columns → List Word
column_words c = map (λ n. variable n) (all c)

-- a row of the block
abbrev pub cells : List (List ℕ) → ℕ × Row → List (Option Term)
cells names r = Some (integer (pos r.0)) ∷ map (term_of r.1.solution) names

abbrev pub rows_words : List (List ℕ) → List (ℕ × Row) → List Word
rows_words names rows = flat_map (λ r. row_words (cells names r)) rows

abbrev pub block_words : List (List ℕ) → Columns → List (ℕ × Row) → List Word
block_words names c rows = in_brackets (column_words c) ++ (fixed (codes "{") ∷ (rows_words names rows ++ fixed (codes "}") ∷ []))

abbrev pub head_words : Columns → List Word
head_words c = fixed (codes "SELECT") ∷ (column_words c ++ fixed (codes "WHERE") ∷ fixed (codes "{") ∷ fixed (codes "VALUES") ∷ [])

abbrev pub all_words : unit.Unit → List (List ℕ) → Columns → List (ℕ × Row) → List Word
all_words u names c rows = head_words c ++ (block_words names c rows ++ (unit_words names u ++ fixed (codes "}") ∷ []))

-- ---- rows of the answer

abbrev pub is_foreign : Columns → Bindings → Bool
is_foreign c t = list_any (λ e. not (is_among (all c) e.0)) t

abbrev pub lacks_one : List (List ℕ × List ℕ) → Bindings → Bool
lacks_one sent t = list_any (λ e. is_none (term_of t e.0)) sent

abbrev pub is_partial : Columns → Bindings → Bool
is_partial c t = is_none (term_of t c.number) || lacks_one c.sent t

-- the terms under the other names are the row's own
abbrev pub has_own : List (List ℕ × List ℕ) → Bindings → Bindings → Bool
has_own sent row t = list_all (λ e. is_own (term_of row e.1) (term_of t e.0)) sent

abbrev pub is_of : Columns → Bindings → ℕ × Row → Bool
is_of c t r = is_that (integer (pos r.0)) (term_of t c.number) && has_own c.sent r.1.solution t

-- a row with the terms under the other names, where it has none
abbrev pub with_told : List (List ℕ × List ℕ) → Bindings → Bindings → Bindings
with_told [] row t = row
with_told (e ∷ es) row t = with_told es (with_value row e.1 (term_of t e.0)) t

abbrev pub located : Columns → Bindings → ℕ × Row → Located
located c t r = record { row = r.0; solution = with_told c.sent r.1.solution t }

abbrev pub first_of : List (ℕ × Row) → Result (ℕ × Row) RowFault
first_of [] = Err Mixed
first_of (r ∷ rows) = Ok r

-- the row that a row of the answer is of, or what is wrong with it
abbrev pub row_of : Columns → List (ℕ × Row) → Bindings → Result (ℕ × Row) RowFault
row_of c rows t = if is_foreign c t then Err Foreign else (if is_partial c t then Err Partial else first_of (filter (is_of c t) rows))
