-- Rows that agree have the same terms under names that both bind.
use Rattle.std.proofs.Common.{◌≡◌, ◌∙◌, ap, sym, refl, ℕ, ◌+◌, ◌≤◌, ◌<◌, suc, Bool, true, false, ◌&&◌, T, cond, List, [], ◌∷◌, ◌++◌, map, length, get_or, Option, Some, None, is_some, inl, inr, All, IsTrue, IsPermutation, append-nil, arith, subst}
use Rattle.std.specs.Prelude.{◌==◌}
use Rattle.std.specs.List.{AllByRecursion, filter, flat_map, list_all}
use Rattle.std.specs.FinMap.Entries.{same_entries}
use Rattle.std.specs.List.Sorted.{IsSortedBy, IsPartitionedBy}
use Rattle.std.specs.declared.cmp.Ordering.{Ordering}
use Rattle.std.specs.declared.cmp.Ordering.TheVariants.{Less, Equal, Greater}
use Rattle.std.specs.Ordering.{is_eq, is_lt, is_le, ordering_reverse}
use Rattle.std.specs.Cmp.Lexicographic.{slice_cmp}
use Rattle.std.proofs.Common.{length-drop, drop}
use Rattle.std.proofs.lemmas.Bool.Decides.{nat_tests}
use Rattle.std.proofs.lemmas.List.{get_or-drop}
use Rattle.std.proofs.lemmas.List.Elements.{recursion_from_All}
use Rattle.std.proofs.lemmas.Cmp.{tied_itself, alike_right}
use Rattle.std.proofs.lemmas.List.Sorted.{Contains-permutation, IsPermutation-refl, IsPermutation-sym, sorted_far, ranks_by}
use Rattle.std.proofs.lemmas.Map.Lookups.{exact_bytes}
use Rattle.fx_terms.specs.Texts.{text_cmp, texts_total}
use Rattle.fx_terms.specs.declared.terms.Term.{Term}
use Rattle.fx_terms.proofs.SetLemmas.{Among, among_from, contains_from}
use Rattle.fx_algebra.specs.Solutions.{Bindings, term_of, agree, merge, rises}
use Rattle.fx_algebra.specs.Sequences.{cells, cell_cmp, row_cmp, rows_total}
use Rattle.fx_algebra.specs.Operators.{merges, join}
use Rattle.fx_algebra.proofs.JoinLemmas.{agree_has, find-merge, same_join}
use Rattle.fx_algebra.proofs.PairLemmas.{rises_merge}
use Rattle.fx_solutions.specs.Joins.{is_one_empty, is_bound_in, is_shared, with_terms, merged}

both : (a b : Bool) → (a && b) ≡ true → (a ≡ true) × (b ≡ true)
both true b h = (refl, h)
both false b h = cc

and_true : (a b : Bool) → a ≡ true → b ≡ true → (a && b) ≡ true
and_true true b g h = h
and_true false b g h = cc

-- ---- names that all rows bind

bound_at : (rows : List Bindings) (name : List ℕ) (row : Bindings) → is_bound_in rows name ≡ true → Among row rows → is_some (term_of row name) ≡ true
bound_at [] name row h m = absurd m
bound_at (r ∷ rs) name row h (inl e) = ap (λ s. is_some (term_of s name)) (sym e) ∙ (both _ _ h).0
bound_at (r ∷ rs) name row h (inr m) = bound_at rs name row (both (is_some (term_of r name)) (is_bound_in rs name) h).1 m

same_some : (o p : Option Term) → is_some o ≡ true → is_some p ≡ true → ((u t : Term) → o ≡ Some u → p ≡ Some t → u ≡ t) → p ≡ o
same_some None p h k f = cc
same_some (Some u) None h k f = cc
same_some (Some u) (Some t) h k f = ap Some (sym (f u t refl refl))

-- rows that agree have the same cells under names that both bind
pub same_cells : (left right : List Bindings) (names : List (List ℕ)) (a r : Bindings) → list_all (is_shared left right) names ≡ true → Among a left → Among r right → agree a r ≡ true → cells names r ≡ cells names a
same_cells left right [] a r h m n k = refl
same_cells left right (name ∷ names) a r h m n k =
    let two = both (is_shared left right name) (list_all (is_shared left right) names) h in
    let bound = both (is_bound_in left name) (is_bound_in right name) two.0 in
    let here : term_of r name ≡ term_of a name =
    same_some (term_of a name) (term_of r name) (bound_at left name a bound.0 m) (bound_at right name r bound.1 n) (λ u t e f. agree_has a r name u t k e f) in
    let rest : cells names r ≡ cells names a = same_cells left right names a r two.1 m n k in
    λ i. here i ∷ rest i

pub tied_rows : (names : List (List ℕ)) (a r : Bindings) → cells names r ≡ cells names a → is_eq (row_cmp names r a) ≡ true
tied_rows names a r e = ap (λ v. is_eq (slice_cmp cell_cmp v (cells names a))) e ∙ ap is_eq (tied_itself (rows_total names) a)

-- ---- only these need to be looked at

pub filter_twice : {X : Type 0} (p q : X → Bool) (xs : List X) → ((x : X) → Among x xs → p x ≡ true → q x ≡ true) → filter p (filter q xs) ≡ filter p xs
filter_twice p q [] h = refl
filter_twice p q (x ∷ xs) h = pick (q x) (p x) refl refl (filter_twice p q xs (λ y m. h y (inr m)))
  where
    pick : (b c : Bool) → q x ≡ b → p x ≡ c → filter p (filter q xs) ≡ filter p xs → filter p (cond b (x ∷ filter q xs) (filter q xs)) ≡ cond c (x ∷ filter p xs) (filter p xs)
    pick true c e f rest = ap (λ b. cond b (x ∷ filter p (filter q xs)) (filter p (filter q xs))) f ∙ ap (λ v. cond c (x ∷ v) v) rest
    pick false true e f rest = let yes : q x ≡ true = h x (inl refl) f in absurd (cc)
    pick false false e f rest = rest

pub flat_map_same : {A B : Type 0} (f g : A → List B) (xs : List A) → ((x : A) → Among x xs → f x ≡ g x) → flat_map f xs ≡ flat_map g xs
flat_map_same f g [] h = refl
flat_map_same f g (x ∷ xs) h = let here : f x ≡ g x = h x (inl refl) in let rest : flat_map f xs ≡ flat_map g xs = flat_map_same f g xs (λ y m. h y (inr m)) in λ i. here i ++ rest i

merged_is : (left right index : List Bindings) (names : List (List ℕ)) → list_all (is_shared left right) names ≡ true → IsPermutation right index → merged names index left ≡ join left index
merged_is left right index names h p =
    flat_map_same (λ a. merges (with_terms names index a) a) (merges index) left
    (λ a m. ap (map (merge a)) (filter_twice (agree a) (λ r. is_eq (row_cmp names r a)) index (λ r n k. tied_rows names a r
    (same_cells left right names a r h m (among_from right r (Contains-permutation index right r (IsPermutation-sym right index p) (contains_from index r n))) k))))

-- the merges with the rows that have the same terms are the join
pub merged_join : (left right index : List Bindings) (names : List (List ℕ)) → list_all (is_shared left right) names ≡ true → IsPermutation right index → IsPermutation (join left right) (merged names index left)
merged_join left right index names h p =
    subst (λ (v : List Bindings). IsPermutation (join left right) v) (sym (merged_is left right index names h p))
    (same_join left left right index (IsPermutation-refl left) p)

-- ---- the search by halves

module _ (names : List (List ℕ)) (row : Bindings) where
  up_to : (a b : Bindings) (o p : Ordering) → row_cmp names b a ≡ o → is_lt o ≡ false → row_cmp names b row ≡ p → (is_lt p ≡ true → is_lt (row_cmp names a row) ≡ true) × (is_le p ≡ true → is_le (row_cmp names a row) ≡ true)
  up_to a b Less p e h f = cc
  up_to a b Equal p e h f = let same : row_cmp names a row ≡ p = sym ((rows_total names).congr b a row e) ∙ f in (λ k. ap is_lt same ∙ k, λ k. ap is_le same ∙ k)
  up_to a b Greater p e h f = behind p f
    where
      less : row_cmp names a b ≡ Less
      less = (rows_total names).antisymm a b ∙ ap ordering_reverse e

      behind : (p : Ordering) → row_cmp names b row ≡ p → (is_lt p ≡ true → is_lt (row_cmp names a row) ≡ true) × (is_le p ≡ true → is_le (row_cmp names a row) ≡ true)
      behind Less f = let below : row_cmp names a row ≡ Less = (rows_total names).trans a b row less f in (λ k. ap is_lt below, λ k. ap is_le below)
      behind Equal f = let below : row_cmp names a row ≡ Less = sym (alike_right (rows_total names) b row a f) ∙ less in (λ k. ap is_lt below, λ k. ap is_le below)
      behind Greater f = (λ k. cc, λ k. cc)

  far : (xs : List Bindings) → IsSortedBy (λ a b. is_lt (row_cmp names a b)) xs → (i j : ℕ) (d : Bindings) → i ≤ j → j < length xs → is_lt (row_cmp names (get_or xs j d) (get_or xs i d)) ≡ false
  far xs up = sorted_far (λ a b. is_lt (row_cmp names a b)) (ranks_by (rows_total names) (λ x. x)) xs up

  pub below_partitioned : (xs : List Bindings) → IsSortedBy (λ a b. is_lt (row_cmp names a b)) xs → IsPartitionedBy (λ r. is_lt (row_cmp names r row)) xs
  below_partitioned xs up i j d a b = (up_to (get_or xs i d) (get_or xs j d) (row_cmp names (get_or xs j d) (get_or xs i d)) (row_cmp names (get_or xs j d) row) refl (far xs up i j d a b) refl).0

  pub up_to_partitioned : (xs : List Bindings) → IsSortedBy (λ a b. is_lt (row_cmp names a b)) xs → IsPartitionedBy (λ r. is_le (row_cmp names r row)) xs
  up_to_partitioned xs up i j d a b = (up_to (get_or xs i d) (get_or xs j d) (row_cmp names (get_or xs j d) (get_or xs i d)) (row_cmp names (get_or xs j d) row) refl (far xs up i j d a b) refl).1

pub partitioned_drop : {X : Type 0} (p : X → Bool) (k : ℕ) (xs : List X) → IsPartitionedBy p xs → IsPartitionedBy p (drop k xs)
partitioned_drop {X} p k xs h i j d a b e =
    subst (λ (t : X). p t ≡ true) (sym (get_or-drop k xs i d)) (h (k + i) (k + j) d (omega arith) (omega (arith, length-drop k xs)) (subst (λ (t : X). p t ≡ true) (get_or-drop k xs j d) e))

-- ---- the join of the one empty row

not_none : (n : ℕ) → (suc n == 0) ≡ true → ⊥
not_none n h = grind (arith, nat_tests)

only_empty : (rows : List Bindings) → is_one_empty rows ≡ true → rows ≡ [] ∷ []
only_empty [] h = cc
only_empty ([] ∷ []) h = refl
only_empty ((e ∷ es) ∷ []) h = absurd (not_none (length es) h)
only_empty (row ∷ other ∷ rows) h = cc

to_T : (b : Bool) → b ≡ true → T b
to_T true h = tt
to_T false h = cc

merge_nothing : (s : Bindings) → IsTrue (rises s) → merge [] s ≡ s
merge_nothing s up = same_entries text_cmp texts_total exact_bytes (merge [] s) s (to_T (rises (merge [] s)) (rises_merge [] s refl)) (to_T (rises s) up) (λ n. find-merge [] s n)

merges_nothing : (rows : List Bindings) → AllByRecursion (λ s. IsTrue (rises s)) rows → merges rows [] ≡ rows
merges_nothing [] h = refl
merges_nothing (s ∷ rows) h =
    let here : merge [] s ≡ s = merge_nothing s h.0 in
    let rest : merges rows [] ≡ rows = merges_nothing rows h.1 in
    λ i. here i ∷ rest i

-- rows joined with the one empty row are these rows
pub joined_with_empty : (left right : List Bindings) → is_one_empty left ≡ true → All (λ s. IsTrue (rises s)) right → IsPermutation (join left right) right
joined_with_empty left right one up =
    let same : join left right ≡ right =
    ap (λ (l : List Bindings). join l right) (only_empty left one) ∙ append-nil (merges right []) ∙ merges_nothing right (recursion_from_All (λ s. IsTrue (rises s)) right up) in
    subst (λ (v : List Bindings). IsPermutation (join left right) v) same (IsPermutation-refl (join left right))
