-- Rows that are kept once, beside the set of what was seen.
use Rattle.std.proofs.Common.{◌≡◌, ◌∙◌, ap, sym, refl, ℕ, Bool, true, false, not, ◌||◌, cond, List, [], ◌∷◌, ◌++◌, fold, BTreeSet}
use Rattle.std.specs.List.{list_any}
use Rattle.std.specs.Ordering.{is_eq}
use Rattle.std.specs.BTreeSet.{contains}
use Rattle.std.proofs.lemmas.List.Folds.{list_any-append}
use Rattle.std.proofs.lemmas.List.Sums.{fold-append}
use Rattle.fx_algebra.specs.Solutions.{Bindings}
use Rattle.fx_algebra.specs.Sequences.{row_cmp, with_row}
use Rattle.fx_solutions.specs.Selected.{cells_of, cells_cmp}
use Rattle.fx_solutions.specs.declared.distinct_rows.Cells.{Cells}

-- the set holds what the rows have under the columns
abbrev pub Sees : List (List ℕ) → BTreeSet Cells → List Bindings → Type 0
Sees columns seen kept = (k : Cells) → contains cells_cmp seen k ≡ list_any (λ r. is_eq (cells_cmp (cells_of columns r) k)) kept

or_last : (b x : Bool) → cond b true x ≡ (x || (b || false))
or_last true true = refl
or_last true false = refl
or_last false true = refl
or_last false false = refl

from_not : (b : Bool) → true ≡ not b → b ≡ false
from_not true h = cc
from_not false h = refl

from_not_false : (b : Bool) → false ≡ not b → b ≡ true
from_not_false true h = refl
from_not_false false h = cc

module _ (columns : List (List ℕ)) (kept yielded : List Bindings) (row : Bindings) (old new : BTreeSet Cells) where
  one_more : kept ≡ fold (with_row columns) [] yielded → with_row columns kept row ≡ fold (with_row columns) [] (yielded ++ row ∷ [])
  one_more e = ap (λ (rows : List Bindings). with_row columns rows row) e ∙ sym (fold-append (with_row columns) [] yielded (row ∷ []))

  with_row_by : (b : Bool) → list_any (λ r. is_eq (row_cmp columns r row)) kept ≡ b → with_row columns kept row ≡ cond b kept (kept ++ row ∷ [])
  with_row_by b e = ap (λ (b : Bool). cond b kept (kept ++ row ∷ [])) e

  pub kept_more : Sees columns old kept → kept ≡ fold (with_row columns) [] yielded → true ≡ not (contains cells_cmp old (cells_of columns row)) → kept ++ row ∷ [] ≡ fold (with_row columns) [] (yielded ++ row ∷ [])
  kept_more sees e h = sym (with_row_by false (sym (sees (cells_of columns row)) ∙ from_not (contains cells_cmp old (cells_of columns row)) h)) ∙ one_more e

  pub kept_same : Sees columns old kept → kept ≡ fold (with_row columns) [] yielded → false ≡ not (contains cells_cmp old (cells_of columns row)) → kept ≡ fold (with_row columns) [] (yielded ++ row ∷ [])
  kept_same sees e h = sym (with_row_by true (sym (sees (cells_of columns row)) ∙ from_not_false (contains cells_cmp old (cells_of columns row)) h)) ∙ one_more e

  pub sees_more : Sees columns old kept → ((k : Cells) → contains cells_cmp new k ≡ cond (is_eq (cells_cmp (cells_of columns row) k)) true (contains cells_cmp old k)) → Sees columns new (kept ++ row ∷ [])
  sees_more sees update k =
      update k
      ∙ or_last (is_eq (cells_cmp (cells_of columns row) k)) (contains cells_cmp old k)
      ∙ ap (λ (b : Bool). b || (is_eq (cells_cmp (cells_of columns row) k) || false)) (sees k)
      ∙ sym (list_any-append (λ r. is_eq (cells_cmp (cells_of columns r) k)) kept (row ∷ []))

  pub sees_same : Sees columns old kept → new.keys ≡ old.keys → Sees columns new kept
  sees_same sees e k = ap (λ (ks : List Cells). list_any (λ q. is_eq (cells_cmp k q)) ks) e ∙ sees k
