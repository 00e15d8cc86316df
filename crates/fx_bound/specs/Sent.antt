-- A branch as it stands in a text: its columns, its words, and what a row tells of it. That this is what the definitions say of a row and
-- a unit is proved.
use Rattle.std.specs.Prelude.{◌≡◌, ℕ, Bool, true, not, ◌&&◌, if◌then◌else◌, List, [], ◌∷◌, ◌++◌, map, filter, codes, Option, Some, None, Result, Ok, Err, pos, Contains}
use Rattle.std.specs.List.{flat_map, list_all, list_any}
use Rattle.fx_algebra.specs.Operators.{with_value}
use Rattle.fx_algebra.specs.Printed.{Word, fixed, variable, term, condition, in_brackets, pattern_words, printed, separated}
use Rattle.fx_algebra.specs.Scopes.{is_among}
use Rattle.fx_algebra.specs.Solutions.{Bindings, term_of}
use Rattle.fx_algebra.specs.Values.{integer}
use Rattle.fx_algebra.specs.declared.expressions.Expr.{Expr}
use Rattle.fx_algebra.specs.declared.units.Unit as unit
use Rattle.fx_renaming.specs.Branches.{bound_expr, bound_pattern}
use Rattle.fx_bound.specs.Reading.{binds_all, binds_one, named}
use Rattle.fx_bound.specs.declared.branches.Branch.{Branch}
use Rattle.fx_bound.specs.declared.faults.RowFault.{RowFault}
use Rattle.fx_bound.specs.declared.faults.RowFault.TheVariants.{Foreign, Mixed, Partial}
use Rattle.fx_founds.specs.declared.founds.Found.{Found}

-- ---- columns

abbrev pub columns_by : List (List ℕ × List ℕ) → Option (List ℕ) → List (List ℕ)
columns_by sent None = map (λ e. e.0) sent
columns_by sent (Some name) = name ∷ []

abbrev pub columns : Branch → List (List ℕ)
columns b = columns_by b.sent b.checked

abbrev pub columns_of_all : List Branch → List (List ℕ)
columns_of_all bs = flat_map columns bs

-- ---- words

-- the columns, branch by branch
abbrev pub column_words : List Branch → List Word
column_words bs = flat_map (λ b. map (λ n. variable n) (columns b)) bs

abbrev pub bound_words : (List ℕ → List ℕ) → Bindings → Expr → List Word
bound_words rename row e = fixed (codes "FILTER") ∷ condition (printed (bound_expr rename row e))

abbrev pub filter_words : (List ℕ → List ℕ) → Bindings → List Expr → List Word
filter_words rename row es = flat_map (bound_words rename row) es

abbrev pub check_words : Option (List ℕ) → List Word
check_words None = []
check_words (Some name) = fixed (codes "BIND") ∷ in_brackets (term (integer (pos 1)) ∷ fixed (codes "AS") ∷ variable name ∷ [])

abbrev pub element_words : unit.Unit → List (List ℕ) → Branch → List Word
element_words u names b =
    flat_map (λ p. pattern_words (bound_pattern (named names b.number) b.row.solution p)) u.patterns ++ (filter_words (named names b.number) b.row.solution u.filters ++ check_words b.checked)

abbrev pub branch_words : unit.Unit → List (List ℕ) → Branch → List Word
branch_words u names b = fixed (codes "{") ∷ (element_words u names b ++ fixed (codes "}") ∷ [])

abbrev pub all_words : unit.Unit → List (List ℕ) → List Branch → List Word
all_words u names bs =
    fixed (codes "SELECT") ∷ (column_words bs ++ fixed (codes "WHERE") ∷ fixed (codes "{") ∷ (separated (fixed (codes "UNION")) (map (branch_words u names) bs) ++ fixed (codes "}") ∷ []))

-- ---- rows of the answer

abbrev pub others : List (List ℕ × List ℕ) → List (List ℕ)
others sent = map (λ e. e.0) sent

abbrev pub has_columns : List (List ℕ) → Bindings → Bool
has_columns names t = list_all (λ e. is_among names e.0) t

abbrev pub binds_just : List (List ℕ) → Bindings → Bool
binds_just names t = has_columns names t && binds_all names t

-- one of the branches, just whose columns a row binds
pub record IsOf (bs : List Branch) (b : Branch) (t : Bindings) : Type 0 where
  pub among : Contains bs b
  pub just : binds_just (columns b) t ≡ true

-- a row with the terms under the names that were sent, where it has none
abbrev pub with_told : List (List ℕ × List ℕ) → Bindings → Bindings → Bindings
with_told [] row t = row
with_told (e ∷ es) row t = with_told es (with_value row e.1 (term_of t e.0)) t

abbrev pub found_by : Bindings → Branch → Found
found_by t b = record { branch = b.number; solution = with_told b.sent b.row.solution t }

abbrev pub branch_bound : Bindings → List Branch → Result Branch RowFault
branch_bound t [] = Err Partial
branch_bound t (b ∷ []) = if binds_all (columns b) t then Ok b else Err Partial
branch_bound t (b ∷ c ∷ bs) = Err Mixed

-- those of which a row binds a column
abbrev pub bound_ones : Bindings → List Branch → List Branch
bound_ones t bs = filter (λ b. binds_one (columns b) t) bs

abbrev pub has_foreign : List Branch → Bindings → Bool
has_foreign bs t = list_any (λ e. not (is_among (columns_of_all bs) e.0)) t

-- the branch that a row is of, or what is wrong with it
abbrev pub branch_in : List Branch → Bindings → Result Branch RowFault
branch_in bs t = if has_foreign bs t then Err Foreign else branch_bound t (bound_ones t bs)

abbrev pub listed : Option Branch → List Branch
listed None = []
listed (Some b) = b ∷ []
