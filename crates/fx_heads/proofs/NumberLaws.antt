-- Numbers that have no more than 64 bits.
use Rattle.std.proofs.Common.{◌≡◌, ℕ, ◌+◌, ◌-◌, ◌*◌, ◌<◌, ◌≤◌, suc, Bool, true, false, List, [], ◌∷◌, length, drop, get_or, drop-cons, Some, None, refl, sym, ap, ◌∙◌, arith, subst}
use Rattle.std.specs.Prelude.{nat_le}
use Rattle.std.proofs.lemmas.Bool.{leb-true, le-leb}
use Rattle.fx_grammar.specs.Grammar.{number_from, number_in}

grows : (v : ℕ) (ds : List ℕ) → v ≤ number_from v ds
grows v [] = omega arith
grows v (d ∷ ds) = let h = grows (v * 10 + (d - 48)) ds in omega (arith, h)

none_in : (digits : List ℕ) → 18446744073709551615 < number_from 0 digits → None ≡ number_in digits
none_in digits h = go (nat_le (number_from 0 digits) 18446744073709551615) refl
  where
    go : (b : Bool) → nat_le (number_from 0 digits) 18446744073709551615 ≡ b → None ≡ number_in digits
    go true e = absurd (let f = leb-true (number_from 0 digits) 18446744073709551615 e in omega (arith, f, h))
    go false e = rw e refl

pub some_in : (digits : List ℕ) (n : ℕ) → n ≡ number_from 0 digits → n ≤ 18446744073709551615 → Some n ≡ number_in digits
some_in digits n is h = go (nat_le (number_from 0 digits) 18446744073709551615) refl
  where
    go : (b : Bool) → nat_le (number_from 0 digits) 18446744073709551615 ≡ b → Some n ≡ number_in digits
    go true e = rw (e, is) refl
    go false e = absurd (let f = le-leb (number_from 0 digits) 18446744073709551615 (omega (arith, h, is)) in cc (e, f))

-- one more digit is too many
pub too_wide : (digits : List ℕ) (i v : ℕ) (d : ℕ) → i < length digits → number_from v (drop i digits) ≡ number_from 0 digits → (v * 10 + (get_or digits i d - 48) < 18446744073709551616 → ⊥) → None ≡ number_in digits
too_wide digits i v d h same f =
    let step : number_from (v * 10 + (get_or digits i d - 48)) (drop (suc i) digits) ≡ number_from 0 digits = ap (number_from v) (sym (drop-cons digits i d h)) ∙ same in
    let long = grows (v * 10 + (get_or digits i d - 48)) (drop (suc i) digits) in
    none_in digits (subst (λ (n : ℕ). 18446744073709551615 < n) step (over (v * 10 + (get_or digits i d - 48)) (number_from (v * 10 + (get_or digits i d - 48)) (drop (suc i) digits)) f long))
  where
    over : (a b : ℕ) → (a < 18446744073709551616 → ⊥) → a ≤ b → 18446744073709551615 < b
    over a b g l = omega (arith, g, l)
