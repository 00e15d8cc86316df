-- The elements that stand at one place, in a list whose elements stand in the order of their places.
use Rattle.std.proofs.Common.{◌≡◌, ◌∙◌, ◌⊎◌, inl, inr, ap, sym, subst, refl, ℕ, zero, suc, ◌+◌, ◌-◌, ◌<◌, ◌≤◌, Bool, true, false, not, cond, List, [], ◌∷◌, length, take, drop, get_or, arith}
use Rattle.std.proofs.lemmas.List.{get_or-drop, length-drop}
use Rattle.std.specs.List.{AllWithin, filter}
use Rattle.std.specs.List.Sorted.{IsPartitionPoint}
use Rattle.std.specs.declared.cmp.Ordering.{Ordering}
use Rattle.std.specs.declared.cmp.Ordering.TheVariants.{Less, Equal, Greater}
use Rattle.std.specs.Ordering.{is_lt, is_le, is_eq}
use Rattle.fx_store.proofs.SearchLemmas.{stands}

-- ---- where a test is true in front and false behind

rest_within : {X : Type 0} (P : X → Type 0) (x : X) (xs : List X) → AllWithin P (x ∷ xs) 0 (length (x ∷ xs)) → AllWithin P xs 0 (length xs)
rest_within P x xs h k d low high = h (suc k) d (omega arith) (omega arith)

all_pass : {X : Type 0} (p : X → Bool) (xs : List X) → AllWithin (λ x. p x ≡ false) xs 0 (length xs) → ([] ≡ filter p xs) × (xs ≡ filter (λ x. not (p x)) xs)
all_pass p [] h = (refl, refl)
all_pass p (x ∷ xs) h =
    let rest = all_pass p xs (rest_within (λ x. p x ≡ false) x xs h) in
    let here : p x ≡ false = h 0 x (omega arith) (omega arith) in (
      rest.0 ∙ ap (λ b. cond b (x ∷ filter p xs) (filter p xs)) (sym here),
      ap (λ v. x ∷ v) rest.1 ∙ ap (λ b. cond (not b) (x ∷ filter (λ x. not (p x)) xs) (filter (λ x. not (p x)) xs)) (sym here),
    )

-- the elements before the point are those that pass, and the others are those behind
pub split_at : {X : Type 0} (p : X → Bool) (xs : List X) (i : ℕ) → i ≤ length xs → IsPartitionPoint (λ x. p x ≡ true) (λ x. p x ≡ false) xs i
    → (take i xs ≡ filter p xs) × (drop i xs ≡ filter (λ x. not (p x)) xs)
split_at p xs zero b h = all_pass p xs h.1
split_at p [] (suc i) b h = absurd (omega arith)
split_at p (x ∷ xs) (suc i) b h =
    let rest = split_at p xs i (omega arith) (λ k d low high. h.0 (suc k) d (omega arith) (omega arith), λ k d low high. h.1 (suc k) d (omega arith) (omega arith)) in
    let here : p x ≡ true = h.0 0 x (omega arith) (omega arith) in (
      ap (λ v. x ∷ v) rest.0 ∙ ap (λ b. cond b (x ∷ filter p xs) (filter p xs)) (sym here),
      rest.1 ∙ ap (λ b. cond (not b) (x ∷ filter (λ x. not (p x)) xs) (filter (λ x. not (p x)) xs)) (sym here),
    )

-- ---- the elements of one place

module _ {X : Type 0} (place : X → Ordering) where
  equal_at : (x : X) (xs : List X) (o : Ordering) → place x ≡ o → filter (λ t. is_le (place t)) (filter (λ t. not (is_lt (place t))) xs) ≡ filter (λ t. is_eq (place t)) xs
      → filter (λ t. is_le (place t)) (cond (not (is_lt o)) (x ∷ filter (λ t. not (is_lt (place t))) xs) (filter (λ t. not (is_lt (place t))) xs)) ≡ cond (is_eq o) (x ∷ filter (λ t. is_eq (place t)) xs) (filter (λ t. is_eq (place t)) xs)
  equal_at x xs Less e rest = rest
  equal_at x xs Equal e rest =
      let others = filter (λ t. is_le (place t)) (filter (λ t. not (is_lt (place t))) xs) in
      ap (λ o. cond (is_le o) (x ∷ others) others) e ∙ ap (λ v. x ∷ v) rest
  equal_at x xs Greater e rest =
      let others = filter (λ t. is_le (place t)) (filter (λ t. not (is_lt (place t))) xs) in
      ap (λ o. cond (is_le o) (x ∷ others) others) e ∙ rest

  -- not below and not above is equal
  equal_of_both : (xs : List X) → filter (λ t. is_le (place t)) (filter (λ t. not (is_lt (place t))) xs) ≡ filter (λ t. is_eq (place t)) xs
  equal_of_both [] = refl
  equal_of_both (x ∷ xs) = equal_at x xs (place x) refl (equal_of_both xs)

  -- from the first element that is not below up to the last that is not above
  run_is : (xs rest : List X) (start end : ℕ) → start ≤ length xs → IsPartitionPoint (λ t. is_lt (place t) ≡ true) (λ t. is_lt (place t) ≡ false) xs start → rest ≡ drop start xs
      → end ≤ length rest → IsPartitionPoint (λ t. is_le (place t) ≡ true) (λ t. is_le (place t) ≡ false) rest end → take end rest ≡ filter (λ t. is_eq (place t)) xs
  run_is xs rest start end b h e c k =
      (split_at (λ t. is_le (place t)) rest end c k).0
      ∙ ap (filter (λ t. is_le (place t))) (e ∙ (split_at (λ t. is_lt (place t)) xs start b h).1)
      ∙ equal_of_both xs

  -- the first end of a run stands no further than the last
  pub ends_rise : (xs : List X) (start end : ℕ) → start ≤ length xs → IsPartitionPoint (λ t. is_lt (place t) ≡ true) (λ t. is_lt (place t) ≡ false) xs start
      → IsPartitionPoint (λ t. is_le (place t) ≡ true) (λ t. is_le (place t) ≡ false) xs end → start ≤ end
  ends_rise xs start end b h k = by (le_or_lt start end)
    where
      le_or_lt : (n m : ℕ) → (n ≤ m) ⊎ (m < n)
      le_or_lt n m = grind arith

      not_both : (o : Ordering) → is_lt o ≡ true → is_le o ≡ false → ⊥
      not_both Less e f = cc
      not_both Equal e f = cc
      not_both Greater e f = cc

      here : end < start → ⊥
      here a = let x = stands xs end (omega arith) in not_both (place (get_or xs end x.0)) (h.0 end x.0 (omega arith) a) (k.1 end x.0 (omega arith) (omega arith))

      by : (start ≤ end) ⊎ (end < start) → start ≤ end
      by (inl a) = a
      by (inr a) = absurd (here a)

  -- those from the one end up to the other
  pub run_between : (xs : List X) (start end : ℕ) → start ≤ end → end ≤ length xs → IsPartitionPoint (λ t. is_lt (place t) ≡ true) (λ t. is_lt (place t) ≡ false) xs start
      → IsPartitionPoint (λ t. is_le (place t) ≡ true) (λ t. is_le (place t) ≡ false) xs end → take (end - start) (drop start xs) ≡ filter (λ t. is_eq (place t)) xs
  run_between xs start end a b h k =
      run_is xs (drop start xs) start (end - start) (omega arith) h refl (omega (arith, length-drop start xs)) (
        λ i d low high. subst (λ t. is_le (place t) ≡ true) (sym (get_or-drop start xs i d)) (k.0 (start + i) d (omega arith) (omega arith)),
        λ i d low high. subst (λ t. is_le (place t) ≡ false) (sym (get_or-drop start xs i d)) (k.1 (start + i) d (omega arith) (omega (arith, length-drop start xs, high))),
      )
