-- Lists taken in two pieces.
use Rattle.std.proofs.Common.{◌≡◌, ◌∙◌, ℕ, zero, suc, ◌+◌, List, [], ◌∷◌, ◌++◌, take, drop, sym, refl, ap, arith}

take_nil : {A : Type 0} (n : ℕ) → take {A = A} n [] ≡ []
take_nil zero = refl
take_nil (suc n) = refl

pub take_two : {A : Type 0} (m n : ℕ) (xs : List A) → take (m + n) xs ≡ take m xs ++ take n (drop m xs)
take_two zero n xs = ap (λ (k : ℕ). take k xs) (let e : 0 + n ≡ n = omega arith in e)
take_two (suc m) n [] = ap (λ (k : ℕ). take k []) (let e : suc m + n ≡ suc (m + n) = omega arith in e) ∙ sym (take_nil n)
take_two (suc m) n (x ∷ xs) = ap (λ (k : ℕ). take k (x ∷ xs)) (let e : suc m + n ≡ suc (m + n) = omega arith in e) ∙ ap (λ l. x ∷ l) (take_two m n xs)
