-- The words of branches as they stand in a text are those of the query of the batch.
use Rattle.std.proofs.Common.{◌≡◌, ◌∙◌, ap, sym, refl, ℕ, List, [], ◌∷◌, ◌++◌, map, Some}
use Rattle.std.specs.Prelude.{codes}
use Rattle.std.specs.List.{flat_map}
use Rattle.std.proofs.lemmas.List.{map-append}
use Rattle.fx_algebra.specs.Printed.{Word, fixed, variable, column_words, condition, joined, pattern_words, printed, separated}
use Rattle.fx_algebra.specs.Solutions.{Bindings}
use Rattle.fx_algebra.specs.declared.expressions.Expr.{Expr}
use Rattle.fx_algebra.specs.declared.units.Unit as unit
use Rattle.fx_bound.specs.Batches.{batch_query}
use Rattle.fx_renaming.specs.Branches.{bound_pattern, bound_word}
use Rattle.fx_bound.specs.Parts.{branch_of, checked_when, printed_by, printed_words}
use Rattle.fx_bound.specs.Reading.{all_columns, columns_by, columns_of, free_names, renamed, unit_names}
use Rattle.fx_bound.specs.Sent as sent
use Rattle.fx_bound.specs.Sent.{all_words, branch_words, filter_words}
use Rattle.fx_bound.specs.Texts as texts
use Rattle.fx_bound.specs.Texts.{batch_words}
use Rattle.fx_founds.specs.Uniting.{Place}
use Rattle.fx_bound.proofs.AcceptLemmas.{batch_has_the_words}
use Rattle.fx_bound.proofs.SentLemmas.{columns_are}
use Rattle.fx_renaming.proofs.WordLemmas.{bound_has_the_words}

filters_are : (rename : List ℕ → List ℕ) (row : Bindings) (es : List Expr)
    → filter_words rename row es ≡ flat_map (λ e. fixed (codes "FILTER") ∷ map (bound_word rename row) (condition (printed e))) es
filters_are rename row [] = refl
filters_are rename row (e ∷ es) = λ i. (fixed (codes "FILTER") ∷ bound_has_the_words rename row e i) ++ filters_are rename row es i

check_is : (number : ℕ) (rename : List ℕ → List ℕ) (free : List (List ℕ)) → sent.check_words (checked_when number (map (λ n. (rename n, n)) free)) ≡ texts.check_words number free
check_is number rename [] = refl
check_is number rename (n ∷ ns) = refl

branch_is : (u : unit.Unit) (b : Place) → branch_words u (unit_names u) (branch_of u b) ≡ texts.branch_words u b
branch_is u b =
    let patterns = flat_map (λ p. pattern_words (bound_pattern (renamed u b.number) b.row.solution p)) u.patterns in
    λ i. fixed (codes "{") ∷ ((patterns ++ (filters_are (renamed u b.number) b.row.solution u.filters i ++ check_is b.number (renamed u b.number) (free_names u b.row.solution) i)) ++ fixed (codes "}") ∷ [])

branches_are : (u : unit.Unit) (bs : List Place) → map (branch_words u (unit_names u)) (map (branch_of u) bs) ≡ map (texts.branch_words u) bs
branches_are u [] = refl
branches_are u (b ∷ bs) = λ i. branch_is u b i ∷ branches_are u bs i

-- a branch has a column
some_column : (u : unit.Unit) (b : Place) (bs : List Place) → map (λ n. variable n) (all_columns u (b ∷ bs)) ≡ column_words (all_columns u (b ∷ bs))
some_column u b bs = by (map (renamed u b.number) (free_names u b.row.solution))
  where
    by : (free : List (List ℕ)) → map (λ n. variable n) (columns_by b.number free ++ all_columns u bs) ≡ column_words (columns_by b.number free ++ all_columns u bs)
    by [] = refl
    by (n ∷ ns) = refl

columns_printed : (u : unit.Unit) (bs : List Place) → sent.column_words (map (branch_of u) bs) ≡ map (λ n. variable n) (all_columns u bs)
columns_printed u [] = refl
columns_printed u (b ∷ bs) =
    (λ i. map (λ n. variable n) (columns_are u b i) ++ columns_printed u bs i)
    ∙ sym (map-append (λ n. variable n) (columns_of u b) (all_columns u bs))

words_are : (u : unit.Unit) (b : Place) (bs : List Place) → all_words u (unit_names u) (map (branch_of u) (b ∷ bs)) ≡ batch_words u (b ∷ bs)
words_are u b bs =
    let columns = columns_printed u (b ∷ bs) ∙ some_column u b bs in
    λ i. fixed (codes "SELECT") ∷ (columns i ++ fixed (codes "WHERE") ∷ fixed (codes "{") ∷ (separated (fixed (codes "UNION")) (branches_are u (b ∷ bs) i) ++ fixed (codes "}") ∷ []))

-- the text of branches is the printed query of the batch
pub text_is : (u : unit.Unit) (bs : List Place) → printed_words (all_words u (unit_names u) (map (branch_of u) bs)) (map (branch_of u) bs) ≡ printed_by (batch_query u bs) bs
text_is u [] = refl
text_is u (b ∷ bs) = ap (λ (v : List Word). Some (joined v)) (words_are u b bs ∙ sym (batch_has_the_words u (b ∷ bs)))
