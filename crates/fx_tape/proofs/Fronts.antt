-- Fronts of lists.
use Rattle.std.proofs.Common.{◌≡◌, ap, sym, refl, ℕ, ◌<◌, ◌⊎◌, inl, inr, List, [], ◌∷◌, ◌++◌, length, get_or, drop, arith, length-append}

-- of two fronts of one list the first begins the second, or goes on behind it
pub fronts : {A : Type 0} (u r v t : List A) → u ++ r ≡ v ++ t → ((w : List A) × (v ≡ u ++ w) × (r ≡ w ++ t)) ⊎ ((c : A) × (w : List A) × (u ≡ v ++ c ∷ w) × (t ≡ c ∷ (w ++ r)))
fronts [] r v t e = inl (v, refl, e)
fronts (x ∷ u) r [] t e = inr (x, u, refl, sym e)
fronts (x ∷ u) r (y ∷ v) t e =
    let same : x ≡ y = cc in
    elim (fronts u r v t (cc)) [
      | inl h ↦ inl (h.0, cc (same, h.1), h.2)
      | inr h ↦ inr (h.0, h.1, cc (same, h.2), h.3)
    ]

-- nothing is longer than itself
pub no_longer : {A : Type 0} (u w more : List A) (n : A) → u ≡ (u ++ w) ++ n ∷ more → ⊥
no_longer u w more n e =
    let long : length u ≡ length ((u ++ w) ++ n ∷ more) = ap length e in
    absurd (omega (arith, length-append (u ++ w) (n ∷ more), length-append u w))

-- a list by its first byte
pub headed : (bytes : List ℕ) (b : ℕ) → 0 < length bytes → get_or bytes 0 0 ≡ b → bytes ≡ b ∷ drop 1 bytes
headed [] b h e = absurd (omega arith)
headed (x ∷ xs) b h e = ap (λ (y : ℕ). y ∷ xs) e

-- fronts of one length
pub same_front : {A : Type 0} (u r v t : List A) → length u ≡ length v → u ++ r ≡ v ++ t → u ≡ v
same_front [] r [] t h e = refl
same_front [] r (y ∷ v) t h e = absurd (omega arith)
same_front (x ∷ u) r [] t h e = absurd (omega arith)
same_front (x ∷ u) r (y ∷ v) t h e =
    let same : x ≡ y = cc in
    let others : u ≡ v = same_front u r v t (omega arith) (cc) in cc
