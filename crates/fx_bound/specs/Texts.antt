-- The text of a batch: its query, printed.
use Rattle.std.specs.Prelude.{◌≡◌, ◌<◌, ◌≤◌, ◌^◌, ℕ, List, length, All, ◌++◌, map, codes, pos, [], ◌∷◌}
use Rattle.std.specs.List.{flat_map}
use Rattle.fx_terms.specs.Terms.{IsTerm}
use Rattle.fx_terms.specs.declared.terms.Term.{Term}
use Rattle.fx_algebra.specs.Printed.{Word, fixed, variable, term, column_words, condition, in_brackets, pattern_words, printed, printed_query, query_words, separated}
use Rattle.fx_algebra.specs.Solutions.{Bindings}
use Rattle.fx_algebra.specs.Values.{integer}
use Rattle.fx_algebra.specs.declared.units.Row.{Row}
use Rattle.fx_algebra.specs.declared.units.Unit as unit
use Rattle.fx_grammar.specs.Accepted.{Accepted}
use Rattle.fx_spelling.specs.Units.{IsFit}
use Rattle.fx_bound.specs.Batches.{batch_query}
use Rattle.fx_renaming.specs.Branches.{bound_pattern, bound_word}
use Rattle.fx_bound.specs.Reading.{all_columns, check_name, free_names, renamed, unit_names}
use Rattle.fx_founds.specs.Uniting.{Place, branches}

-- the terms of a row are terms
abbrev pub HasTerms : Bindings → Type 0
HasTerms s = All (λ (e : List ℕ × Term). IsTerm e.1) s

-- The printed query of the batch of at most 64 rows, of which one at least is worth asking for, is accepted as that query.
abbrev pub BatchIsAccepted : Type 0
BatchIsAccepted = (u : unit.Unit) (rows : List Row)
    → IsFit u
    → All (λ r. HasTerms r.solution) rows
    → length rows ≤ 64
    → length (unit_names u) < 2 ^ 64
    → 0 < length (branches u rows)
    → Accepted (printed_query (batch_query u (branches u rows))) (batch_query u (branches u rows))

-- ---- its words

-- the words that say that a branch without a variable has a solution
abbrev pub check_words : ℕ → List (List ℕ) → List Word
check_words branch [] = fixed (codes "BIND") ∷ in_brackets (term (integer (pos 1)) ∷ fixed (codes "AS") ∷ variable (check_name branch) ∷ [])
check_words branch (name ∷ names) = []

-- a branch: its triples, and then the unit's filters in the words that they had, with the row's terms and the other names in them
abbrev pub branch_words : unit.Unit → Place → List Word
branch_words u b =
    fixed (codes "{")
    ∷ ((flat_map (λ p. pattern_words (bound_pattern (renamed u b.number) b.row.solution p)) u.patterns
    ++ (flat_map (λ e. fixed (codes "FILTER") ∷ map (bound_word (renamed u b.number) b.row.solution) (condition (printed e))) u.filters ++ check_words b.number (free_names u b.row.solution)))
    ++ fixed (codes "}") ∷ [])

abbrev pub batch_words : unit.Unit → List Place → List Word
batch_words u bs =
    fixed (codes "SELECT") ∷ (column_words (all_columns u bs) ++ fixed (codes "WHERE") ∷ fixed (codes "{") ∷ (separated (fixed (codes "UNION")) (map (branch_words u) bs) ++ fixed (codes "}") ∷ []))

-- the law: these are the words that the query of a batch is printed in
abbrev pub BatchHasTheWords : Type 0
BatchHasTheWords = (u : unit.Unit) (bs : List Place) → query_words (batch_query u bs) ≡ batch_words u bs
