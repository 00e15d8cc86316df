-- The order of rows tells projected rows apart, so the same rows give one sequence.
use Rattle.std.proofs.Common.{◌≡◌, ◌∙◌, ap, sym, refl, ℕ, Bool, true, false, ◌||◌, T, cond, List, [], ◌∷◌, map, drop, Option, Some, None, All, IsPermutation, IsTrue}
use Rattle.std.specs.List.Sorted.{IsSortedBy}
use Rattle.std.specs.declared.cmp.Ordering.{Ordering}
use Rattle.std.specs.declared.cmp.Ordering.TheVariants.{Less, Equal, Greater}
use Rattle.std.specs.Ordering.{is_eq, is_lt, ordering_then}
use Rattle.std.specs.FinMap.Entries.{find-where_key, same_entries}
use Rattle.std.proofs.lemmas.List.Elements.{All-map, All-weaker}
use Rattle.std.proofs.lemmas.List.Sorted.{IsPermutation-map}
use Rattle.std.proofs.lemmas.Map.Lookups.{exact_bytes}
use Rattle.fx_terms.specs.Texts.{text_cmp, texts_total}
use Rattle.fx_terms.specs.Terms.{term_cmp}
use Rattle.fx_terms.specs.declared.terms.Term.{Term}
use Rattle.fx_terms.proofs.OrderLemmas.{exact_terms}
use Rattle.fx_algebra.specs.Scopes.{is_among}
use Rattle.fx_algebra.specs.Solutions.{Bindings, term_of, rises, SameRows}
use Rattle.fx_algebra.specs.Sequences.{projected, cell_cmp, row_cmp, rows_total, sorted_by, ordered, distinct_rows, limited, OneSequence}
use Rattle.fx_algebra.proofs.OrderLemmas.{one_order, same_order}
use Rattle.fx_algebra.proofs.PairLemmas.{rises_kept}

-- a row whose names rise and are columns
pub record IsRowOf (columns : List (List ℕ)) (s : Bindings) : Type 0 where
  pub rises : IsTrue (rises s)
  pub within : (name : List ℕ) → is_among columns name ≡ false → term_of s name ≡ None

-- ---- projected rows

absent : (b : Bool) (o : Option Term) → b ≡ false → cond b o None ≡ None
absent true o e = cc
absent false o e = refl

pub row_of : (columns : List (List ℕ)) (s : Bindings) → IsTrue (rises s) → IsRowOf columns (projected columns s)
row_of columns s h = record {
  rises = rises_kept (is_among columns) s h;
  within = λ name e.
      find-where_key text_cmp (is_among columns) name (λ x t. ap (is_among columns) (sym (exact_bytes name x t))) s
      ∙ absent (is_among columns name) (term_of s name) e;
}

-- ---- the order tells them apart

tie : (o p : Ordering) → ordering_then o p ≡ Equal → (o ≡ Equal) × (p ≡ Equal)
tie Equal p h = (refl, h)
tie Less p h = cc
tie Greater p h = cc

exact_cells : (a b : Option Term) → cell_cmp a b ≡ Equal → a ≡ b
exact_cells None None e = refl
exact_cells None (Some u) e = cc
exact_cells (Some t) None e = cc
exact_cells (Some t) (Some u) e = ap Some (exact_terms t u (tie (term_cmp t u) Equal e).0)

name_from : (o : Ordering) (a b : List ℕ) → text_cmp a b ≡ o → is_eq o ≡ true → a ≡ b
name_from Less a b e h = cc
name_from Equal a b e h = exact_bytes a b e
name_from Greater a b e h = cc

-- rows that tie have the same terms under the columns
cells_tie : (columns : List (List ℕ)) (a b : Bindings) → row_cmp columns a b ≡ Equal → (name : List ℕ) → is_among columns name ≡ true → term_of a name ≡ term_of b name
cells_tie [] a b e name h = cc
cells_tie (c ∷ cs) a b e name h = pick (is_eq (text_cmp c name)) refl h (cells_tie cs a b (tie _ _ e).1 name)
  where
    pick : (t : Bool) → is_eq (text_cmp c name) ≡ t → (t || is_among cs name) ≡ true → (is_among cs name ≡ true → term_of a name ≡ term_of b name) → term_of a name ≡ term_of b name
    pick true f g later =
        let same : c ≡ name = name_from (text_cmp c name) c name refl f in
        ap (term_of a) (sym same) ∙ exact_cells (term_of a c) (term_of b c) (tie _ _ e).0 ∙ ap (term_of b) same
    pick false f g later = later g

same_terms : (columns : List (List ℕ)) (a b : Bindings) → IsRowOf columns a → IsRowOf columns b → row_cmp columns a b ≡ Equal → (name : List ℕ) (t : Bool) → is_among columns name ≡ t → term_of a name ≡ term_of b name
same_terms columns a b p q e name true h = cells_tie columns a b e name h
same_terms columns a b p q e name false h = p.within name h ∙ sym (q.within name h)

to_T : (b : Bool) → b ≡ true → T b
to_T true h = tt
to_T false h = cc

-- the order of rows tells rows of the columns apart
pub exact_rows : (columns : List (List ℕ)) (a b : Bindings) → IsRowOf columns a → IsRowOf columns b → row_cmp columns a b ≡ Equal → a ≡ b
exact_rows columns a b p q e =
    same_entries text_cmp texts_total exact_bytes a b (to_T (rises a) p.rises) (to_T (rises b) q.rises) (λ name. same_terms columns a b p q e name (is_among columns name) refl)

-- ---- one sequence

pub all_rows : (columns : List (List ℕ)) (rows : List Bindings) → All (λ s. IsTrue (rises s)) rows → All (IsRowOf columns) (map (projected columns) rows)
all_rows columns rows h = All-map (IsRowOf columns) (projected columns) rows (All-weaker (λ s. IsTrue (rises s)) (λ s. IsRowOf columns (projected columns s)) (row_of columns) rows h)

-- a list that is in order and has the rows, each of which is of the columns, is the rows in order
pub rows_in_order : (columns : List (List ℕ)) (rows v : List Bindings) → All (IsRowOf columns) rows → IsSortedBy (λ a b. is_lt (row_cmp columns a b)) v → IsPermutation rows v → v ≡ sorted_by (row_cmp columns) rows
rows_in_order columns rows v h up p = one_order (row_cmp columns) (rows_total columns) (IsRowOf columns) (exact_rows columns) rows v h up p

-- the same rows, however they arrived, come in one order
pub same_ordered : (columns : List (List ℕ)) (a b : List Bindings) → All (λ s. IsTrue (rises s)) a → SameRows a b → ordered columns a ≡ ordered columns b
same_ordered columns a b h p =
    same_order (row_cmp columns) (rows_total columns) (IsRowOf columns) (exact_rows columns) (map (projected columns) a) (map (projected columns) b) (all_rows columns a h) (IsPermutation-map (projected columns) a b p)

pub one_sequence_holds : OneSequence
one_sequence_holds distinct columns offset limit a b h p = ap (λ v. limited limit (drop offset (distinct_rows distinct columns v))) (same_ordered columns a b h p)
