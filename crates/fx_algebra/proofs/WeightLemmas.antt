-- Lists that weigh the same under every weight hold each element as often.
use Rattle.std.proofs.Common.{◌≡◌, ◌∙◌, ap, sym, refl, ℕ, ◌+◌, ◌<◌, Bool, true, false, cond, List, [], ◌∷◌, map, filter, sum_by, arith, IsPermutation, inl, inr}
use Rattle.std.specs.List.{flat_map, remove}
use Rattle.std.specs.declared.cmp.Ordering.{Ordering}
use Rattle.std.specs.declared.cmp.Ordering.TheVariants.{Less, Equal, Greater}
use Rattle.std.specs.Ordering.{is_eq}
use Rattle.std.specs.Cmp.{IsTotalOrder}
use Rattle.std.proofs.lemmas.Cmp.{tied_itself}
use Rattle.std.proofs.lemmas.List.Sums.{sum_by-append, sum_by-cons}
use Rattle.std.proofs.lemmas.List.Sorted.{IsPermutation-refl, IsPermutation-sym, IsPermutation-cons, IsPermutation-trans, IsPermutation-remove, sum_by-IsPermutation}
use Rattle.fx_terms.proofs.SetLemmas.{Among, contains_from}

-- every weight says that both weigh the same
abbrev pub SameWeights : {X : Type 0} → List X → List X → Type 0
SameWeights {X} xs ys = (h : X → ℕ) → sum_by h xs ≡ sum_by h ys

pub weights_from : {X : Type 0} (xs ys : List X) → IsPermutation xs ys → SameWeights xs ys
weights_from xs ys p h = sym (sum_by-IsPermutation h xs ys p)

-- ---- weights of lists that are made from others

pub sum_by_same : {X : Type 0} (f g : X → ℕ) (xs : List X) → ((x : X) → Among x xs → f x ≡ g x) → sum_by f xs ≡ sum_by g xs
sum_by_same f g [] same = refl
sum_by_same f g (x ∷ xs) same =
    let here : f x ≡ g x = same x (inl refl) in
    let rest : sum_by f xs ≡ sum_by g xs = sum_by_same f g xs (λ y m. same y (inr m)) in
    omega (arith, sum_by-cons f x xs, sum_by-cons g x xs, here, rest)

pub sum_by-flat_map : {X Y : Type 0} (h : Y → ℕ) (f : X → List Y) (xs : List X) → sum_by h (flat_map f xs) ≡ sum_by (λ x. sum_by h (f x)) xs
sum_by-flat_map h f [] = refl
sum_by-flat_map h f (x ∷ xs) =
    let rest : sum_by h (flat_map f xs) ≡ sum_by (λ x. sum_by h (f x)) xs = sum_by-flat_map h f xs in
    omega (arith, sum_by-append h (f x) (flat_map f xs), sum_by-cons (λ x. sum_by h (f x)) x xs, rest)

pub sum_by-map : {X Y : Type 0} (h : Y → ℕ) (f : X → Y) (xs : List X) → sum_by h (map f xs) ≡ sum_by (λ x. h (f x)) xs
sum_by-map h f [] = refl
sum_by-map h f (x ∷ xs) =
    let rest : sum_by h (map f xs) ≡ sum_by (λ x. h (f x)) xs = sum_by-map h f xs in
    omega (arith, sum_by-cons h (f x) (map f xs), sum_by-cons (λ x. h (f x)) x xs, rest)

pub sum_by-filter : {X : Type 0} (h : X → ℕ) (p : X → Bool) (xs : List X) → sum_by h (filter p xs) ≡ sum_by (λ x. cond (p x) (h x) 0) xs
sum_by-filter h p [] = refl
sum_by-filter h p (x ∷ xs) = pick (p x) (sum_by-filter h p xs) ∙ sym (sum_by-cons (λ x. cond (p x) (h x) 0) x xs)
  where
    pick : (b : Bool) → sum_by h (filter p xs) ≡ sum_by (λ x. cond (p x) (h x) 0) xs → sum_by h (cond b (x ∷ filter p xs) (filter p xs)) ≡ cond b (h x) 0 + sum_by (λ x. cond (p x) (h x) 0) xs
    pick true rest = sum_by-cons h x (filter p xs) ∙ ap (λ n. h x + n) rest
    pick false rest = omega (arith, rest)

-- ---- where elements can be told apart, such lists are permutations

module _ {X : Type 0} (R : X → X → Ordering) (o : IsTotalOrder R) (exact : (a b : X) → R a b ≡ Equal → a ≡ b) where
  one_if : X → X → ℕ
  one_if x y = cond (is_eq (R x y)) 1 0

  here_once : (x : X) → one_if x x ≡ 1
  unfolding one_if
  here_once x = ap (λ r. cond {A = ℕ} (is_eq r) 1 0) (tied_itself o x)

  tied : (r : Ordering) → is_eq r ≡ true → r ≡ Equal
  tied Less e = cc
  tied Equal e = refl
  tied Greater e = cc

  none_at : (b : Bool) → b ≡ false → cond {A = ℕ} b 1 0 ≡ 0
  none_at true e = cc
  none_at false e = refl

  -- what has weight stands in the list
  stands : (x : X) (ys : List X) → 0 < sum_by (one_if x) ys → Among x ys
  unfolding one_if
  stands x [] h = absurd (omega arith)
  stands x (y ∷ ys) h = pick (is_eq (R x y)) refl (stands x ys)
    where
      pick : (b : Bool) → is_eq (R x y) ≡ b → (0 < sum_by (one_if x) ys → Among x ys) → Among x (y ∷ ys)
      pick true e later = inl (sym (exact x y (tied (R x y) e)))
      pick false e later = let none : cond {A = ℕ} (is_eq (R x y)) 1 0 ≡ 0 = none_at (is_eq (R x y)) e in inr (later (omega (arith, sum_by-cons (one_if x) y ys, none, h)))

  pub permutation_from : (xs ys : List X) → SameWeights xs ys → IsPermutation xs ys
  permutation_from [] [] same = IsPermutation-refl []
  permutation_from [] (y ∷ ys) same = absurd (omega (arith, same (λ _. 1), sum_by-cons (λ (_ : X). 1) y ys))
  permutation_from (x ∷ xs) ys same =
      let h = one_if x in
      let m : Among x ys = stands x ys (omega (arith, same (one_if x), sum_by-cons (one_if x) x xs, here_once x)) in
      let at = contains_from ys x m in
      let moved : IsPermutation ys (x ∷ remove ys at.0) = IsPermutation-remove ys at.0 x at.1 (sym at.2) in
      let rest : SameWeights xs (remove ys at.0) = λ g. omega (arith, same g, sum_by-cons g x xs, sum_by-IsPermutation g ys (x ∷ remove ys at.0) moved, sum_by-cons g x (remove ys at.0)) in
      IsPermutation-trans (x ∷ xs) (x ∷ remove ys at.0) ys (IsPermutation-cons x xs (remove ys at.0) (permutation_from xs (remove ys at.0) rest)) (IsPermutation-sym ys (x ∷ remove ys at.0) moved)
