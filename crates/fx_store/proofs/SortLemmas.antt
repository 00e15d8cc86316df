-- What a sort leaves of the elements that pass a test.
use Rattle.std.proofs.Common.{◌≡◌, ◌∙◌, ap, sym, refl, ℕ, ◌+◌, Bool, true, false, cond, List, [], ◌∷◌, length, filter, arith}
use Rattle.std.specs.List.{AllByRecursion}
use Rattle.std.specs.List.Sorted.{IsStrictlySortedBy}
use Rattle.std.specs.declared.cmp.Ordering.{Ordering}
use Rattle.std.specs.declared.cmp.Ordering.TheVariants.{Less, Equal}
use Rattle.std.specs.Ordering.{is_le}
use Rattle.std.specs.Cmp.{IsTotalOrder}
use Rattle.fx_algebra.specs.Sequences.{insert_by, sorted_by}
use Rattle.fx_algebra.proofs.OrderLemmas.{Le, Ascends, times, times-cons, one_if, all_sorted, sorted_ascends, sorted_times, one_list}

-- ---- how many there are

module _ {X : Type 0} (R : X → X → Ordering) (q : X → Bool) where
  passing : List X → ℕ
  passing xs = length (filter q xs)

  passing-cons : (x : X) (xs : List X) → passing (x ∷ xs) ≡ cond (q x) 1 0 + passing xs
  unfolding passing
  passing-cons x xs = elim (q x) as (λ b. length (cond b (x ∷ filter q xs) (filter q xs)) ≡ cond b 1 0 + length (filter q xs)) [ true ↦ omega arith | false ↦ omega arith ]

  passing_inserted : (x : X) (ys : List X) → passing (insert_by R x ys) ≡ passing (x ∷ ys)
  unfolding insert_by
  passing_inserted x [] = refl
  passing_inserted x (y ∷ ys) = pick (is_le (R x y)) (passing_inserted x ys)
    where
      pick : (b : Bool) → passing (insert_by R x ys) ≡ passing (x ∷ ys) → passing (cond b (x ∷ y ∷ ys) (y ∷ insert_by R x ys)) ≡ passing (x ∷ y ∷ ys)
      pick true e = refl
      pick false e = omega (arith, e, passing-cons y (insert_by R x ys), passing-cons x (y ∷ ys), passing-cons y ys, passing-cons x ys)

  -- a sort leaves as many that pass
  passing_sorted : (xs : List X) → passing (sorted_by R xs) ≡ passing xs
  unfolding sorted_by
  passing_sorted [] = refl
  passing_sorted (x ∷ xs) = omega (arith, passing_inserted x (sorted_by R xs), passing_sorted xs, passing-cons x xs, passing-cons x (sorted_by R xs))

  pub count_sorted : (xs : List X) → length (filter q (sorted_by R xs)) ≡ length (filter q xs)
  unfolding passing
  count_sorted xs = passing_sorted xs

pub all_pass : {X : Type 0} (xs : List X) → filter (λ x. true) xs ≡ xs
all_pass [] = refl
all_pass (x ∷ xs) = ap (λ v. x ∷ v) (all_pass xs)

pub length_sorted : {X : Type 0} (R : X → X → Ordering) (xs : List X) → length (sorted_by R xs) ≡ length xs
length_sorted R xs = sym (ap length (all_pass (sorted_by R xs))) ∙ count_sorted R (λ x. true) xs ∙ ap length (all_pass xs)

-- ---- a list that is in order, in an order that agrees with it on those that pass

all_kept : {X : Type 0} (P : X → Type 0) (p : X → Bool) (xs : List X) → AllByRecursion P xs → AllByRecursion P (filter p xs)
all_kept P p [] h = tt
all_kept P p (x ∷ xs) h = elim (p x) as (λ b. AllByRecursion P (cond b (x ∷ filter p xs) (filter p xs))) [ true ↦ (h.0, all_kept P p xs h.1) | false ↦ all_kept P p xs h.1 ]

module _ {X : Type 0} (R S : X → X → Ordering) (o : IsTotalOrder R) (q : X → Bool) (keeps : (x y : X) → q x ≡ true → q y ≡ true → S x y ≡ Less → is_le (R x y) ≡ true) where
  -- where both pass, the first in the list stays the first
  abbrev IsFirst : X → X → Type 0
  IsFirst x y = q y ≡ true → is_le (R x y) ≡ true

  all_first : (x : X) (xs : List X) → q x ≡ true → AllByRecursion (λ y. S x y ≡ Less) xs → AllByRecursion (IsFirst x) xs
  all_first x [] h k = tt
  all_first x (y ∷ ys) h k = (λ g. keeps x y h g k.0, all_first x ys h k.1)

  not_here : (x y : X) (b : Bool) → q y ≡ b → IsFirst x y → is_le (R x y) ≡ false → b ≡ false
  not_here x y true e h k = let le : is_le (R x y) ≡ true = h e in absurd (cc)
  not_here x y false e h k = refl

  insert_first : (x : X) (ys : List X) → q x ≡ true → AllByRecursion (IsFirst x) ys → filter q (insert_by R x ys) ≡ x ∷ filter q ys
  unfolding insert_by
  insert_first x [] h k = ap (λ b. cond b (x ∷ []) []) h
  insert_first x (y ∷ ys) h k = pick (is_le (R x y)) refl (insert_first x ys h k.1)
    where
      pick : (b : Bool) → is_le (R x y) ≡ b → filter q (insert_by R x ys) ≡ x ∷ filter q ys → filter q (cond b (x ∷ y ∷ ys) (y ∷ insert_by R x ys)) ≡ x ∷ filter q (y ∷ ys)
      pick true e rest = ap (λ b. cond b (x ∷ filter q (y ∷ ys)) (filter q (y ∷ ys))) h
      pick false e rest =
          let out : q y ≡ false = not_here x y (q y) refl k.0 e in
          ap (λ b. cond b (y ∷ filter q (insert_by R x ys)) (filter q (insert_by R x ys))) out
          ∙ rest
          ∙ ap (λ b. x ∷ cond b (y ∷ filter q ys) (filter q ys)) (sym out)

  insert_other : (x : X) (ys : List X) → q x ≡ false → filter q (insert_by R x ys) ≡ filter q ys
  unfolding insert_by
  insert_other x [] h = ap (λ b. cond b (x ∷ []) []) h
  insert_other x (y ∷ ys) h = pick (is_le (R x y)) (insert_other x ys h)
    where
      pick : (b : Bool) → filter q (insert_by R x ys) ≡ filter q ys → filter q (cond b (x ∷ y ∷ ys) (y ∷ insert_by R x ys)) ≡ filter q (y ∷ ys)
      pick true rest = ap (λ b. cond b (x ∷ filter q (y ∷ ys)) (filter q (y ∷ ys))) h
      pick false rest = ap (λ v. cond (q y) (y ∷ v) v) rest

  insert_at : (x : X) (xs : List X) (b : Bool) → q x ≡ b → AllByRecursion (λ y. S x y ≡ Less) xs → filter q (insert_by R x (sorted_by R xs)) ≡ cond b (x ∷ filter q (sorted_by R xs)) (filter q (sorted_by R xs))
  insert_at x xs true h k = insert_first x (sorted_by R xs) h (all_sorted R o (IsFirst x) xs (all_first x xs h k))
  insert_at x xs false h k = insert_other x (sorted_by R xs) h

  -- the sort leaves those that pass as they stand
  pub kept_in_order : (xs : List X) → IsStrictlySortedBy S xs → filter q (sorted_by R xs) ≡ filter q xs
  unfolding sorted_by IsStrictlySortedBy
  kept_in_order [] h = refl
  kept_in_order (x ∷ xs) h = insert_at x xs (q x) refl h.0 ∙ ap (λ v. cond (q x) (x ∷ v) v) (kept_in_order xs h.1)

-- ---- those that pass in another order, sorted back

module _ {X : Type 0} (R S : X → X → Ordering) (o : IsTotalOrder S) (q : X → Bool) where
  found : X → List X → ℕ
  found z xs = times S o z (filter q xs)

  found-cons : (z x : X) (xs : List X) → found z (x ∷ xs) ≡ cond (q x) (one_if S o z x) 0 + found z xs
  unfolding found
  found-cons z x xs = elim (q x) as (λ b. times S o z (cond b (x ∷ filter q xs) (filter q xs)) ≡ cond b (one_if S o z x) 0 + times S o z (filter q xs)) [ true ↦ times-cons S o z x (filter q xs) | false ↦ omega arith ]

  found_inserted : (z x : X) (ys : List X) → found z (insert_by R x ys) ≡ found z (x ∷ ys)
  unfolding insert_by
  found_inserted z x [] = refl
  found_inserted z x (y ∷ ys) = pick (is_le (R x y)) (found_inserted z x ys)
    where
      pick : (b : Bool) → found z (insert_by R x ys) ≡ found z (x ∷ ys) → found z (cond b (x ∷ y ∷ ys) (y ∷ insert_by R x ys)) ≡ found z (x ∷ y ∷ ys)
      pick true e = refl
      pick false e = omega (arith, e, found-cons z y (insert_by R x ys), found-cons z x (y ∷ ys), found-cons z y ys, found-cons z x ys)

  found_sorted : (z : X) (xs : List X) → found z (sorted_by R xs) ≡ found z xs
  unfolding sorted_by
  found_sorted z [] = refl
  found_sorted z (x ∷ xs) = omega (arith, found_inserted z x (sorted_by R xs), found_sorted z xs, found-cons z x xs, found-cons z x (sorted_by R xs))

  as_often : (z : X) (xs : List X) → times S o z (filter q (sorted_by R xs)) ≡ times S o z (filter q xs)
  unfolding found
  as_often z xs = found_sorted z xs

  ascends_kept : (xs : List X) → Ascends S o xs → Ascends S o (filter q xs)
  ascends_kept [] h = tt
  ascends_kept (x ∷ xs) h = elim (q x) as (λ b. Ascends S o (cond b (x ∷ filter q xs) (filter q xs))) [ true ↦ (all_kept (Le S o x) q xs h.0, ascends_kept xs h.1) | false ↦ ascends_kept xs h.1 ]

  none_asked : (xs : List X) → AllByRecursion (λ x. Unit {0}) xs
  none_asked [] = tt
  none_asked (x ∷ xs) = (tt, none_asked xs)

  -- of a list in order, those that pass come back as they stand
  pub sorted_back : ((a b : X) → S a b ≡ Equal → a ≡ b) → (xs : List X) → Ascends S o xs → sorted_by S (filter q (sorted_by R xs)) ≡ filter q xs
  sorted_back exact xs up =
      one_list S o (λ x. Unit {0}) (λ a b u v e. exact a b e)
      (sorted_by S (filter q (sorted_by R xs))) (filter q xs)
      (none_asked _) (none_asked _)
      (sorted_ascends S o (filter q (sorted_by R xs)))
      (ascends_kept xs up)
      (λ z. sorted_times S o z (filter q (sorted_by R xs)) ∙ as_often z xs)
