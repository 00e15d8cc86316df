-- A search by halves.
use Rattle.std.proofs.Common.{◌≡◌, ◌∙◌, ap, subst, refl, ℕ, zero, suc, ◌+◌, ◌-◌, ◌/◌, ◌^◌, ◌<◌, ◌≤◌, Bool, true, false, List, [], ◌∷◌, length, get_or, Some, arith}
use Rattle.std.specs.List.{AllWithin, slice_get}
use Rattle.std.specs.List.Sorted.{IsPartitionedBy}
use Rattle.std.specs.Int.Digits.{digits_of}
use Rattle.std.proofs.lemmas.Int.Digits.{length-digits_of_step, length-digits_of-le, number_lt, number_digits_of, all_below_base_digits_of}
use Rattle.fx_store.specs.Lookups.{binary_digits}

-- ---- one look

pub there : {X : Type 0} (xs : List X) (k : ℕ) (x : X) → slice_get xs k ≡ Some x → k < length xs
there [] k x e = cc
there (y ∷ ys) zero x e = omega arith
there (y ∷ ys) (suc k) x e = let rest = there ys k x e in omega (arith, rest)

pub stands : {X : Type 0} (xs : List X) (k : ℕ) → k < length xs → (x : X) × (slice_get xs k ≡ Some x)
stands [] k h = absurd (omega arith)
stands (x ∷ xs) zero h = (x, refl)
stands (x ∷ xs) (suc k) h = stands xs k (omega arith)

pub looked : {X : Type 0} (xs : List X) (k : ℕ) (x d : X) → slice_get xs k ≡ Some x → get_or xs k d ≡ x
looked [] k x d e = cc
looked (y ∷ ys) zero x d e = cc
looked (y ∷ ys) (suc k) x d e = looked ys k x d e

module _ {X : Type 0} (p : X → Bool) (xs : List X) (parted : IsPartitionedBy p xs) where
  -- what passes passes with all before it
  pub passes_below : (middle : ℕ) (x : X) → slice_get xs middle ≡ Some x → p x ≡ true → AllWithin (λ y. p y ≡ true) xs 0 (middle + 1)
  passes_below middle x e h k d low high = parted k middle d (omega arith) (there xs middle x e) (ap p (looked xs middle x d e) ∙ h)

  not_after : (k middle : ℕ) (d : X) → middle ≤ k → k < length xs → p (get_or xs middle d) ≡ false → (b : Bool) → p (get_or xs k d) ≡ b → b ≡ false
  not_after k middle d low high h true e = let other : p (get_or xs middle d) ≡ true = parted middle k d low high e in absurd (cc)
  not_after k middle d low high h false e = refl

  -- what fails fails with all behind it
  pub fails_above : (middle : ℕ) (x : X) → slice_get xs middle ≡ Some x → p x ≡ false → AllWithin (λ y. p y ≡ false) xs middle (length xs)
  fails_above middle x e h k d low high = not_after k middle d low high (ap p (looked xs middle x d e) ∙ h) (p (get_or xs k d)) refl

-- ---- how many looks

below_power : (n : ℕ) → n < 2 ^ binary_digits n
below_power n = subst (λ (m : ℕ). m < 2 ^ binary_digits n) (number_digits_of 2 n (omega arith)) (number_lt 2 (digits_of 2 n) (all_below_base_digits_of 2 n (omega arith)))

no_more : (m n : ℕ) → m ≤ n → binary_digits m ≤ binary_digits n
no_more m n h = length-digits_of-le 2 (binary_digits n) m (omega arith) (let b = below_power n in omega (arith, h, b))

-- a half has a digit fewer
pub half : (m n : ℕ) → 0 < n → m ≤ n / 2 → binary_digits m + 1 ≤ binary_digits n
half m n h k = let a = length-digits_of_step 2 n (omega arith) h in let b = no_more m (n / 2) k in omega (arith, a, b)

-- either part behind the middle is at most a half
pub upper_half : (low high : ℕ) → low < high → high - (low + (high - low) / 2 + 1) ≤ (high - low) / 2
upper_half low high h = omega arith

pub lower_half : (low high : ℕ) → low < high → low + (high - low) / 2 - low ≤ (high - low) / 2
lower_half low high h = omega arith
