-- Under an order that tells the elements of a list apart, they have one order.
use Rattle.std.proofs.Common.{◌≡◌, ◌∙◌, ap, sym, refl, ℕ, suc, ◌+◌, ◌<◌, ◌≤◌, Bool, true, false, cond, List, [], ◌∷◌, length, get_or, sum_by, All, IsPermutation, arith}
use Rattle.std.specs.List.{AllByRecursion}
use Rattle.std.specs.List.Sorted.{IsSortedBy}
use Rattle.std.specs.declared.cmp.Ordering.{Ordering}
use Rattle.std.specs.declared.cmp.Ordering.TheVariants.{Less, Equal, Greater}
use Rattle.std.specs.Ordering.{is_lt, is_le, is_eq, ordering_reverse}
use Rattle.std.specs.Cmp.{IsTotalOrder}
use Rattle.std.proofs.lemmas.Cmp.{tied_itself, alike_right}
use Rattle.std.proofs.lemmas.List.Elements.{recursion_from_All}
use Rattle.std.proofs.lemmas.List.Sorted.{sorted_far, ranks_by, sum_by-IsPermutation, All-permutation}
use Rattle.std.proofs.lemmas.List.Sums.{sum_by-cons}
use Rattle.fx_algebra.specs.Sequences.{insert_by, sorted_by}

-- ---- any total order

module _ {X : Type 0} (R : X → X → Ordering) (o : IsTotalOrder R) where
  -- not above
  abbrev pub Le : X → X → Type 0
  Le x y = is_le (R x y) ≡ true

  abbrev pub Ascends : List X → Type 0
  Ascends [] = Unit {0}
  Ascends (x ∷ xs) = AllByRecursion (Le x) xs × Ascends xs

  le_self : (x : X) → Le x x
  le_self x = rw (tied_itself o x) refl

  not_le : (x y : X) (a b : Ordering) → R y x ≡ b → a ≡ ordering_reverse b → is_le a ≡ false → is_le b ≡ true
  not_le x y a Less e g h = refl
  not_le x y a Equal e g h = refl
  not_le x y a Greater e g h = absurd (cc)

  other_le : (x y : X) → is_le (R x y) ≡ false → Le y x
  other_le x y h = not_le x y (R x y) (R y x) refl (o.antisymm x y) h

  le_trans_at : (x y z : X) (a b : Ordering) → R x y ≡ a → R y z ≡ b → is_le a ≡ true → is_le b ≡ true → Le x z
  le_trans_at x y z Less Less e f h k = rw (o.trans x y z e f) refl
  le_trans_at x y z Less Equal e f h k = rw (← alike_right o y z x f, e) refl
  le_trans_at x y z Equal b e f h k = rw (o.congr x y z e, f) k
  le_trans_at x y z Less Greater e f h k = absurd (cc)
  le_trans_at x y z Greater b e f h k = absurd (cc)

  le_trans : (x y z : X) → Le x y → Le y z → Le x z
  le_trans x y z h k = le_trans_at x y z (R x y) (R y z) refl refl h k

  -- ---- how often an element stands in a list

  abbrev pub one_if : X → X → ℕ
  one_if x y = cond (is_eq (R x y)) 1 0

  pub times : X → List X → ℕ
  times x ys = sum_by (one_if x) ys

  pub times-cons : (x y : X) (ys : List X) → times x (y ∷ ys) ≡ one_if x y + times x ys
  unfolding times
  times-cons x y ys = sum_by-cons (one_if x) y ys

  no_times : (x : X) → times x [] ≡ 0
  unfolding times
  no_times x = refl

  tied_from : (a : Ordering) → is_eq a ≡ true → a ≡ Equal
  tied_from Less h = cc
  tied_from Equal h = refl
  tied_from Greater h = cc

  below_at : (x y z : X) (zs : List X) (b : Bool) → is_eq (R x z) ≡ b → Le y z → 0 < times x (z ∷ zs) → (0 < times x zs → Le y x) → Le y x
  below_at x y z zs true e h b later = rw (alike_right o x z y (tied_from (R x z) e)) h
  below_at x y z zs false e h b later = later (let d : one_if x z ≡ 0 = rw e refl in omega (arith, times-cons x z zs))

  -- what is above no element of a list is not above one that stands there
  below : (x y : X) (zs : List X) → AllByRecursion (Le y) zs → 0 < times x zs → Le y x
  below x y [] h b = absurd (omega (arith, no_times x))
  below x y (z ∷ zs) h b = below_at x y z zs (is_eq (R x z)) refl h.0 b (below x y zs h.1)

  pub once_here : (x : X) (xs : List X) → times x (x ∷ xs) ≡ 1 + times x xs
  once_here x xs = times-cons x x xs ∙ ap (λ a. cond (is_eq a) 1 0 + times x xs) (tied_itself o x)

  pub least : (x y : X) (ys : List X) → Ascends (y ∷ ys) → 0 < times x (y ∷ ys) → Le y x
  least x y ys h b = below x y (y ∷ ys) (le_self y, h.0) b

  pub one_more : (z x : X) (xs ys : List X) → times z (x ∷ xs) ≡ times z (x ∷ ys) → times z xs ≡ times z ys
  one_more z x xs ys e = omega (arith, times-cons z x xs, times-cons z x ys)

  pub none : (y : X) (ys : List X) → times y [] ≡ times y (y ∷ ys) → ⊥
  none y ys e = omega (arith, once_here y ys, no_times y)

  pub same_times : (z : X) (xs ys : List X) → IsPermutation xs ys → times z ys ≡ times z xs
  unfolding times
  same_times z xs ys p = sum_by-IsPermutation (one_if z) xs ys p

  -- ---- a list in order ascends, and holds what the list holds

  all_le : (x y : X) (ys : List X) → Le x y → AllByRecursion (Le y) ys → AllByRecursion (Le x) ys
  all_le x y [] h k = tt
  all_le x y (z ∷ zs) h k = (le_trans x y z h k.0, all_le x y zs h k.1)

  all_insert : (P : X → Type 0) (x : X) (ys : List X) → P x → AllByRecursion P ys → AllByRecursion P (insert_by R x ys)
  unfolding insert_by
  all_insert P x [] p h = (p, tt)
  all_insert P x (y ∷ ys) p h = pick (is_le (R x y)) (all_insert P x ys p h.1)
    where
      pick : (b : Bool) → AllByRecursion P (insert_by R x ys) → AllByRecursion P (cond b (x ∷ y ∷ ys) (y ∷ insert_by R x ys))
      pick true g = (p, h)
      pick false g = (h.0, g)

  pub all_sorted : (P : X → Type 0) (xs : List X) → AllByRecursion P xs → AllByRecursion P (sorted_by R xs)
  unfolding sorted_by
  all_sorted P [] h = tt
  all_sorted P (x ∷ xs) h = all_insert P x (sorted_by R xs) h.0 (all_sorted P xs h.1)

  insert_ascends : (x : X) (ys : List X) → Ascends ys → Ascends (insert_by R x ys)
  unfolding insert_by
  insert_ascends x [] h = (tt, tt)
  insert_ascends x (y ∷ ys) h = pick (is_le (R x y)) refl (insert_ascends x ys h.1)
    where
      pick : (b : Bool) → is_le (R x y) ≡ b → Ascends (insert_by R x ys) → Ascends (cond b (x ∷ y ∷ ys) (y ∷ insert_by R x ys))
      pick true e g = ((e, all_le x y ys e h.0), h)
      pick false e g = (all_insert (Le y) x ys (other_le x y e) h.0, g)

  insert_times : (z x : X) (ys : List X) → times z (insert_by R x ys) ≡ times z (x ∷ ys)
  unfolding insert_by
  insert_times z x [] = refl
  insert_times z x (y ∷ ys) = pick (is_le (R x y)) (insert_times z x ys)
    where
      pick : (b : Bool) → times z (insert_by R x ys) ≡ times z (x ∷ ys) → times z (cond b (x ∷ y ∷ ys) (y ∷ insert_by R x ys)) ≡ times z (x ∷ y ∷ ys)
      pick true e = refl
      pick false e = omega (arith, e, times-cons z y (insert_by R x ys), times-cons z x (y ∷ ys), times-cons z y ys, times-cons z x ys)

  pub sorted_ascends : (xs : List X) → Ascends (sorted_by R xs)
  unfolding sorted_by
  sorted_ascends [] = tt
  sorted_ascends (x ∷ xs) = insert_ascends x (sorted_by R xs) (sorted_ascends xs)

  pub sorted_times : (z : X) (xs : List X) → times z (sorted_by R xs) ≡ times z xs
  unfolding sorted_by
  sorted_times z [] = refl
  sorted_times z (x ∷ xs) = omega (arith, insert_times z x (sorted_by R xs), sorted_times z xs, times-cons z x xs, times-cons z x (sorted_by R xs))

  -- ---- what a sort ensures

  flip_at : (a b : X) (p q : Ordering) → R b a ≡ p → R a b ≡ q → q ≡ ordering_reverse p → is_lt p ≡ false → is_le q ≡ true
  flip_at a b Less q e f g h = absurd (cc)
  flip_at a b Equal q e f g h = rw g refl
  flip_at a b Greater q e f g h = rw g refl

  all_from : (P : X → Type 0) (ys : List X) → ((j : ℕ) (d : X) → j < length ys → P (get_or ys j d)) → AllByRecursion P ys
  all_from P [] h = tt
  all_from P (y ∷ ys) h = (h 0 y (omega arith), all_from P ys (λ j d b. h (suc j) d (omega arith)))

  pub ascends_from : (ys : List X) → ((i j : ℕ) (d : X) → i ≤ j → j < length ys → is_lt (R (get_or ys j d) (get_or ys i d)) ≡ false) → Ascends ys
  ascends_from [] h = tt
  ascends_from (y ∷ ys) h = (
    all_from (Le y) ys (λ j d b. flip_at y (get_or ys j d) (R (get_or ys j d) y) (R y (get_or ys j d)) refl refl (o.antisymm y (get_or ys j d)) (h 0 (suc j) d (omega arith) (omega arith))),
    ascends_from ys (λ i j d b c. h (suc i) (suc j) d (omega arith) (omega arith)),
  )

-- ---- an order that tells apart what P holds of

module _ {X : Type 0} (R : X → X → Ordering) (o : IsTotalOrder R) (P : X → Type 0) (exact : (a b : X) → P a → P b → R a b ≡ Equal → a ≡ b) where
  both_le : (x y : X) (a b : Ordering) → P x → P y → R x y ≡ a → R y x ≡ b → a ≡ ordering_reverse b → is_le a ≡ true → is_le b ≡ true → x ≡ y
  both_le x y Less Less p q e f g h k = absurd (cc)
  both_le x y Less Equal p q e f g h k = absurd (cc)
  both_le x y Less Greater p q e f g h k = absurd (cc)
  both_le x y Equal b p q e f g h k = exact x y p q e
  both_le x y Greater b p q e f g h k = absurd (cc)

  -- neither is above the other
  antisym : (x y : X) → P x → P y → Le R o x y → Le R o y x → x ≡ y
  antisym x y p q h k = both_le x y (R x y) (R y x) p q refl refl (o.antisymm x y) h k

  -- two lists in order that hold each element as often are one
  pub one_list : (xs ys : List X) → AllByRecursion P xs → AllByRecursion P ys → Ascends R o xs → Ascends R o ys → ((z : X) → times R o z xs ≡ times R o z ys) → xs ≡ ys
  one_list [] [] p q h k e = refl
  one_list [] (y ∷ ys) p q h k e = absurd (none R o y ys (e y))
  one_list (x ∷ xs) [] p q h k e = absurd (none R o x xs (sym (e x)))
  one_list (x ∷ xs) (y ∷ ys) p q h k e =
      let same : x ≡ y = antisym x y p.0 q.0 (least R o y x xs h (omega (arith, e y, once_here R o y ys))) (least R o x y ys k (omega (arith, e x, once_here R o x xs))) in
      let rest : xs ≡ ys = one_list xs ys p.1 q.1 h.1 k.1 (λ z. one_more R o z x xs ys (e z ∙ ap (λ v. times R o z (v ∷ ys)) (sym same))) in
      λ i. same i ∷ rest i

  -- a list that is in order and has the elements is the list in order
  pub one_order : (xs ys : List X) → All P xs → IsSortedBy (λ x y. is_lt (R x y)) ys → IsPermutation xs ys → ys ≡ sorted_by R xs
  one_order xs ys h up p =
      one_list ys (sorted_by R xs)
      (recursion_from_All P ys (All-permutation P xs ys p h))
      (all_sorted R o P xs (recursion_from_All P xs h))
      (ascends_from R o ys (sorted_far (λ x y. is_lt (R x y)) (ranks_by o (λ x. x)) ys up))
      (sorted_ascends R o xs)
      (λ z. same_times R o z xs ys p ∙ sym (sorted_times R o z xs))

  -- the same elements, however they arrived, have one order
  pub same_order : (xs ys : List X) → All P xs → IsPermutation xs ys → sorted_by R xs ≡ sorted_by R ys
  same_order xs ys h p =
      one_list (sorted_by R xs) (sorted_by R ys)
      (all_sorted R o P xs (recursion_from_All P xs h))
      (all_sorted R o P ys (recursion_from_All P ys (All-permutation P xs ys p h)))
      (sorted_ascends R o xs)
      (sorted_ascends R o ys)
      (λ z. sorted_times R o z xs ∙ sym (same_times R o z xs ys p) ∙ sym (sorted_times R o z ys))
