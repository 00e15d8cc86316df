-- No byte of an IRI is forbidden.
use Rattle.std.proofs.Common.{◌≡◌, ℕ, suc, ◌+◌, nat_lt, not, length, Bool, true, false, cond, List, [], ◌∷◌, Option, Some, None, Ok, refl, arith}
use Rattle.std.specs.Prelude.{All}
use Rattle.std.specs.List.{position_or_len, position}
use Rattle.std.proofs.lemmas.Bool.Decides.{nat_tests}
use Rattle.std.proofs.lemmas.List.Elements.{All-cons, All-nil}
use Rattle.fx_terms.specs.Iris.{iri_after, is_forbidden, IsIri}

one_later : (k n : ℕ) → nat_lt (1 + k) (suc n) ≡ false → nat_lt k n ≡ false
one_later k n h = grind (arith, nat_tests)

first_below : (n : ℕ) → nat_lt 0 (suc n) ≡ true
first_below n = grind (arith, nat_tests)

one_passes_not : (p : ℕ → Bool) (x : ℕ) (xs : List ℕ) (b : Bool) → p x ≡ b → nat_lt (cond (not b) (1 + position_or_len p xs) 0) (suc (length xs)) ≡ false → (nat_lt (position_or_len p xs) (length xs) ≡ false → All (λ x. p x ≡ false) xs) → All (λ x. p x ≡ false) (x ∷ xs)
one_passes_not p x xs true e g rest = let pos = first_below (length xs) in absurd (cc)
one_passes_not p x xs false e g rest = All-cons (λ x. p x ≡ false) x xs e (rest (one_later _ _ g))

none_passes : (p : ℕ → Bool) (xs : List ℕ) → nat_lt (position_or_len p xs) (length xs) ≡ false → All (λ x. p x ≡ false) xs
none_passes p [] h = All-nil (λ x. p x ≡ false)
none_passes p (x ∷ xs) h = one_passes_not p x xs (p x) refl h (none_passes p xs)

no_place : (text : List ℕ) (o : Option ℕ) → iri_after text o ≡ Ok text → o ≡ None
no_place text None h = refl
no_place text (Some n) h = cc

not_below : (b : Bool) (n : ℕ) → cond b (Some n) None ≡ None → b ≡ false
not_below true n h = cc
not_below false n h = refl

pub iri_bytes : (iri : List ℕ) → IsIri iri → All (λ b. is_forbidden b ≡ false) iri
iri_bytes iri h =
    none_passes is_forbidden iri (not_below (nat_lt (position_or_len is_forbidden iri) (length iri)) _ (no_place iri (position is_forbidden iri) h.iri))
