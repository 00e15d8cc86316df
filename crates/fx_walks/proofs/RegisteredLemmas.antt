-- Whether a registry has an address, by its endpoints.
use Rattle.std.proofs.Common.{◌≡◌, ◌≢◌, ◌∙◌, ap, refl, inl, inr, ℕ, ◌+◌, ◌<◌, Bool, true, false, not, cond, List, [], ◌∷◌, Option, Some, None, is_some, All, Contains, bytes_eq, length, nat_lt, arith}
use Rattle.std.specs.List.{position_or_len}
use Rattle.std.proofs.lemmas.Bool.Decides.{nat_tests}
use Rattle.std.proofs.lemmas.List.Elements.{All-contains}
use Rattle.std.proofs.lemmas.Slice.Eq.{bytes_eq-Decides}
use Rattle.fx_terms.proofs.SetLemmas.{Among, among_from, contains_from}
use Rattle.fx_outside.specs.Endpoints.{EndpointParts}
use Rattle.fx_sources.specs.Registries.{number_of}

module _ (p : EndpointParts → Bool) where
  -- one that passes has a place
  place_below : (es : List EndpointParts) (e : EndpointParts) → Among e es → p e ≡ true → position_or_len p es < length es
  place_below [] e m h = absurd m
  place_below (x ∷ es) e (inl same) h =
      let here : p x ≡ true = ap p same ∙ h in
      let first : position_or_len p (x ∷ es) ≡ 0 = ap (λ (b : Bool). cond {A = ℕ} (not b) (1 + position_or_len p es) 0) here in
      omega (arith, first)
  place_below (x ∷ es) e (inr m) h = go (p x) refl (place_below es e m h)
    where
      go : (b : Bool) → p x ≡ b → position_or_len p es < length es → position_or_len p (x ∷ es) < length (x ∷ es)
      go true here k = let first : position_or_len p (x ∷ es) ≡ 0 = ap (λ (b : Bool). cond {A = ℕ} (not b) (1 + position_or_len p es) 0) here in omega (arith, first)
      go false here k = let later : position_or_len p (x ∷ es) ≡ 1 + position_or_len p es = ap (λ (b : Bool). cond {A = ℕ} (not b) (1 + position_or_len p es) 0) here in omega (arith, later, k)

  -- where none does, the place is behind the last
  place_behind : (es : List EndpointParts) → ((e : EndpointParts) → Among e es → p e ≡ false) → position_or_len p es ≡ length es
  place_behind [] h = refl
  place_behind (x ∷ es) h =
      let here : p x ≡ false = h x (inl refl) in
      let later : position_or_len p (x ∷ es) ≡ 1 + position_or_len p es = ap (λ (b : Bool). cond {A = ℕ} (not b) (1 + position_or_len p es) 0) here in
      let rest : position_or_len p es ≡ length es = place_behind es (λ e m. h e (inr m)) in
      omega (arith, later, rest)

some_below : (n m : ℕ) (b : Bool) → nat_lt n m ≡ b → n < m → is_some (cond {A = Option ℕ} b (Some n) None) ≡ true
some_below n m true is h = refl
some_below n m false is h = grind (arith, nat_tests)

none_behind : (n m : ℕ) (b : Bool) → nat_lt n m ≡ b → n ≡ m → is_some (cond {A = Option ℕ} b (Some n) None) ≡ false
none_behind n m true is h = grind (arith, nat_tests)
none_behind n m false is h = refl

-- one of the endpoints has it
pub registered_by : (es : List EndpointParts) (iri : List ℕ) (e : EndpointParts) → Contains es e → e.iri ≡ iri → is_some (number_of iri es) ≡ true
registered_by es iri e among same =
    let p : EndpointParts → Bool = λ d. bytes_eq d.iri iri in
    some_below (position_or_len p es) (length es) (nat_lt (position_or_len p es) (length es)) refl (place_below p es e (among_from es e among) ((bytes_eq-Decides e.iri iri).1 same))

differ : (a b : List ℕ) (t : Bool) → bytes_eq a b ≡ t → a ≢ b → t ≡ false
differ a b true is h = absurd (h ((bytes_eq-Decides a b).0 is))
differ a b false is h = refl

-- none has
pub unregistered_by : (es : List EndpointParts) (iri : List ℕ) → All (λ e. e.iri ≢ iri) es → is_some (number_of iri es) ≡ false
unregistered_by es iri none =
    let p : EndpointParts → Bool = λ d. bytes_eq d.iri iri in
    none_behind (position_or_len p es) (length es) (nat_lt (position_or_len p es) (length es)) refl
    (place_behind p es (λ e m. differ e.iri iri (bytes_eq e.iri iri) refl (All-contains (λ (d : EndpointParts). d.iri ≢ iri) es e none (contains_from es e m))))
