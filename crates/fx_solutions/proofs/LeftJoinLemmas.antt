-- Left joins and subtractions: only the rows that have the same terms under shared names need to be looked at, and row by row
-- gives the rows of the left join in another order.
use Rattle.std.proofs.Common.{◌≡◌, ◌∙◌, ap, sym, refl, ℕ, Bool, true, false, not, ◌&&◌, ◌||◌, cond, List, [], ◌∷◌, ◌++◌, map, inl, inr, IsPermutation, subst, append_assoc}
use Rattle.std.specs.List.{filter, flat_map, list_all, list_any}
use Rattle.std.specs.Ordering.{is_eq}
use Rattle.std.proofs.lemmas.List.Elements.{filter-append}
use Rattle.std.proofs.lemmas.List.Sorted.{Contains-permutation, IsPermutation-refl, IsPermutation-sym, IsPermutation-cons, IsPermutation-append_right, IsPermutation-append, IsPermutation-middle, IsPermutation-trans, list_any-IsPermutation}
use Rattle.fx_terms.proofs.SetLemmas.{Among, among_from, contains_from}
use Rattle.fx_algebra.specs.Solutions.{Bindings, agree, merge}
use Rattle.fx_algebra.specs.Sequences.{row_cmp}
use Rattle.fx_algebra.specs.Operators.{merges, join}
use Rattle.fx_algebra.specs.declared.expressions.Expr.{Expr}
use Rattle.fx_algebra.proofs.JoinLemmas.{same_join, same_rows_from}
use Rattle.fx_algebra.proofs.WeightLemmas.{weights_from, sum_by-filter}
use Rattle.fx_algebra.specs.Conditions.{holds}
use Rattle.fx_solutions.specs.Joins.{is_shared, with_terms, matched, kept}
use Rattle.fx_algebra.specs.Operators.{filtered, diff, left_join, is_removed_by, shares, stays, minus, matches, or_itself, matches_or_itself}
use Rattle.fx_solutions.proofs.JoinLemmas.{same_cells, tied_rows, filter_twice, flat_map_same}

-- ---- which rows need to be looked at

-- a row of an index that agrees with a row of the left has its terms
pub tied_in : (left right index : List Bindings) (names : List (List ℕ)) → list_all (is_shared left right) names ≡ true → IsPermutation right index
    → (a : Bindings) → Among a left → (r : Bindings) → Among r index → agree a r ≡ true → is_eq (row_cmp names r a) ≡ true
tied_in left right index names h p a m r n k =
    tied_rows names a r (same_cells left right names a r h m (among_from right r (Contains-permutation index right r (IsPermutation-sym right index p) (contains_from index r n))) k)

-- what passes a test is looked for among those that must pass another
any_twice : {X : Type 0} (p q : X → Bool) (xs : List X) → ((x : X) → Among x xs → p x ≡ true → q x ≡ true) → list_any p (filter q xs) ≡ list_any p xs
any_twice p q [] h = refl
any_twice p q (x ∷ xs) h = pick (q x) (p x) refl refl (any_twice p q xs (λ y m. h y (inr m)))
  where
    pick : (b c : Bool) → q x ≡ b → p x ≡ c → list_any p (filter q xs) ≡ list_any p xs → list_any p (cond b (x ∷ filter q xs) (filter q xs)) ≡ (c || list_any p xs)
    pick true c e f rest = ap (λ v. v || list_any p (filter q xs)) f ∙ ap (λ v. c || v) rest
    pick false true e f rest = let yes : q x ≡ true = h x (inl refl) f in absurd (cc)
    pick false false e f rest = rest

filter_same : {X : Type 0} (p q : X → Bool) (xs : List X) → ((x : X) → Among x xs → p x ≡ q x) → filter p xs ≡ filter q xs
filter_same p q [] h = refl
filter_same p q (x ∷ xs) h = ap (λ b. cond b (x ∷ filter p xs) (filter p xs)) (h x (inl refl)) ∙ ap (λ v. cond (q x) (x ∷ v) v) (filter_same p q xs (λ y m. h y (inr m)))

first_of : (a b : Bool) → (a && b) ≡ true → a ≡ true
first_of true b h = refl
first_of false b h = cc

-- ---- subtractions

pub kept_minus : (left right index : List Bindings) (names : List (List ℕ)) → list_all (is_shared left right) names ≡ true → IsPermutation right index → kept names index left ≡ minus left right
unfolding stays
kept_minus left right index names h p =
    filter_same (λ a. not (list_any (is_removed_by a) (with_terms names index a))) (λ a. not (list_any (is_removed_by a) right)) left
    (λ a m. ap not (any_twice (is_removed_by a) (λ r. is_eq (row_cmp names r a)) index (λ r n k. tied_in left right index names h p a m r n (first_of (agree a r) (shares a r) k))
    ∙ sym (list_any-IsPermutation (is_removed_by a) right index p)))

-- ---- left joins

matched_is : (conditions : List Expr) (left right index : List Bindings) (names : List (List ℕ)) → list_all (is_shared left right) names ≡ true → IsPermutation right index
    → matched conditions names index left ≡ flat_map (λ a. or_itself a (matches conditions index a)) left
unfolding matches_or_itself
matched_is conditions left right index names h p =
    flat_map_same (λ a. or_itself a (matches conditions (with_terms names index a) a)) (λ a. or_itself a (matches conditions index a)) left
    (λ a m. ap (λ rows. or_itself a (filter (holds conditions) (map (merge a) rows))) (filter_twice (agree a) (λ r. is_eq (row_cmp names r a)) index (λ r n k. tied_in left right index names h p a m r n k)))

module _ (conditions : List Expr) (right : List Bindings) where
  abbrev meets : Bindings → Bindings → Bool
  meets a b = agree a b && holds conditions (merge a b)

  abbrev is_none : List Bindings → Bool
  is_none [] = true
  is_none (s ∷ ss) = false

  none_more : (a b : Bindings) (bs : List Bindings) (x y : Bool) → agree a b ≡ x → holds conditions (merge a b) ≡ y → not (list_any (meets a) bs) ≡ is_none (matches conditions bs a)
      → not (list_any (meets a) (b ∷ bs)) ≡ is_none (matches conditions (b ∷ bs) a)
  none_more a b bs true true e f h = rw (e, f) refl
  none_more a b bs true false e f h = rw (e, f) h
  none_more a b bs false y e f h = rw e h

  -- no row meets it where there is no match
  none_meets : (a : Bindings) (bs : List Bindings) → not (list_any (meets a) bs) ≡ is_none (matches conditions bs a)
  none_meets a [] = refl
  none_meets a (b ∷ bs) = none_more a b bs (agree a b) (holds conditions (merge a b)) refl refl (none_meets a bs)

  kept_join : List Bindings → List Bindings
  kept_join left = filter (holds conditions) (join left right)

  join_more : (a : Bindings) (left : List Bindings) → kept_join (a ∷ left) ≡ matches conditions right a ++ kept_join left
  unfolding kept_join
  join_more a left = filter-append (holds conditions) (merges right a) (join left right)

  diff_more : (a : Bindings) (left : List Bindings) → diff (a ∷ left) right conditions ≡ cond (is_none (matches conditions right a)) (a ∷ diff left right conditions) (diff left right conditions)
  diff_more a left = ap (λ b. cond b (a ∷ diff left right conditions) (diff left right conditions)) (none_meets a right)

  turn : (a : Bindings) (found kept without rest : List Bindings) → IsPermutation (kept ++ without) rest
      → IsPermutation ((found ++ kept) ++ cond (is_none found) (a ∷ without) without) (or_itself a found ++ rest)
  turn a [] kept without rest h =
      IsPermutation-trans (kept ++ (a ∷ without)) (a ∷ (kept ++ without)) (a ∷ rest) (IsPermutation-middle kept a without) (IsPermutation-cons a (kept ++ without) rest h)
  turn a (s ∷ found) kept without rest h =
      subst (λ (v : List Bindings). IsPermutation v ((s ∷ found) ++ rest)) (sym (append_assoc (s ∷ found) kept without)) (IsPermutation-append_right (s ∷ found) (kept ++ without) rest h)

  row_by_row : (left : List Bindings) → IsPermutation (kept_join left ++ diff left right conditions) (flat_map (λ a. or_itself a (matches conditions right a)) left)
  unfolding kept_join
  row_by_row [] = IsPermutation-refl []
  row_by_row (a ∷ left) =
      let rest = flat_map (λ (b : Bindings). or_itself b (matches conditions right b)) left in
      let h = turn a (matches conditions right a) (kept_join left) (diff left right conditions) rest (row_by_row left) in
      subst (λ (v : List Bindings). IsPermutation (v ++ diff (a ∷ left) right conditions) (or_itself a (matches conditions right a) ++ rest)) (sym (join_more a left))
      (subst (λ (v : List Bindings). IsPermutation ((matches conditions right a ++ kept_join left) ++ v) (or_itself a (matches conditions right a) ++ rest)) (sym (diff_more a left)) h)

  pub rows_of_left_join : (left : List Bindings) → IsPermutation (left_join left right conditions) (flat_map (λ a. or_itself a (matches conditions right a)) left)
  unfolding kept_join
  rows_of_left_join left = row_by_row left

filter_moves : (p : Bindings → Bool) (xs ys : List Bindings) → IsPermutation xs ys → IsPermutation (filter p xs) (filter p ys)
filter_moves p xs ys h =
    same_rows_from (filter p xs) (filter p ys) (λ w. sum_by-filter w p xs ∙ weights_from xs ys h (λ x. cond (p x) (w x) 0) ∙ sym (sum_by-filter w p ys))

-- the same rows on the right give the same left join
pub same_left_join : (left right index : List Bindings) (conditions : List Expr) → IsPermutation right index → IsPermutation (left_join left right conditions) (left_join left index conditions)
same_left_join left right index conditions p =
    let same : diff left right conditions ≡ diff left index conditions =
    filter_same (λ a. not (list_any (λ b. agree a b && holds conditions (merge a b)) right)) (λ a. not (list_any (λ b. agree a b && holds conditions (merge a b)) index)) left
    (λ a m. ap not (list_any-IsPermutation (λ b. agree a b && holds conditions (merge a b)) right index p)) in
    subst (λ (v : List Bindings). IsPermutation (filtered conditions (join left right) ++ diff left right conditions) (filtered conditions (join left index) ++ v)) same
    (IsPermutation-append (filtered conditions (join left right)) (filtered conditions (join left index)) (diff left right conditions) (diff left right conditions)
    (filter_moves (holds conditions) (join left right) (join left index) (same_join left left right index (IsPermutation-refl left) p)) (IsPermutation-refl (diff left right conditions)))

pub matched_left_join : (conditions : List Expr) (left right index : List Bindings) (names : List (List ℕ)) → list_all (is_shared left right) names ≡ true → IsPermutation right index
    → IsPermutation (left_join left right conditions) (matched conditions names index left)
matched_left_join conditions left right index names h p =
    subst (λ (v : List Bindings). IsPermutation (left_join left right conditions) v) (sym (matched_is conditions left right index names h p))
    (IsPermutation-trans (left_join left right conditions) (left_join left index conditions) (flat_map (λ a. or_itself a (matches conditions index a)) left)
    (same_left_join left right index conditions p) (rows_of_left_join conditions index left))
