-- Occurrences of SERVICE, gathered one part of a group after the other.
use Rattle.std.proofs.Common.{◌≡◌, ◌∙◌, ap, sym, ℕ, ◌+◌, ◌<◌, List, [], ◌∷◌, ◌++◌, length, get_or, take, append-nil, append_assoc}
use Rattle.std.specs.List.{flat_map}
use Rattle.std.proofs.lemmas.Grind.{flat_map-append}
use Rattle.std.proofs.lemmas.List.{take_more}
use Rattle.fx_services.specs.Beside.{Occurrence}

-- a part without any
pub none_more : (old os : List Occurrence) → os ≡ [] → old ≡ old ++ os
none_more old os none = sym (append-nil old) ∙ ap (λ (v : List Occurrence). old ++ v) (sym none)

module _ {X : Type 0} (of : X → List Occurrence) (all : List X) where
  -- one part more
  pub one_more : (old now new : List Occurrence) (i : ℕ) (x : X) → i < length all → x ≡ get_or all i x → now ≡ old ++ flat_map of (take i all) → new ≡ now ++ of x → new ≡ old ++ flat_map of (take (i + 1) all)
  one_more old now new i x low is h k =
      k
      ∙ ap (λ (v : List Occurrence). v ++ of x) h
      ∙ append_assoc old (flat_map of (take i all)) (of x)
      ∙ ap (λ (v : List Occurrence). old ++ v) next
    where
      next : flat_map of (take i all) ++ of x ≡ flat_map of (take (i + 1) all)
      next =
          ap (λ (v : List Occurrence). flat_map of (take i all) ++ v) (sym (append-nil (of x)))
          ∙ sym (flat_map-append of (take i all) (x ∷ []))
          ∙ ap (λ (v : X). flat_map of (take i all ++ v ∷ [])) is
          ∙ ap (flat_map of) (sym (take_more all i x low))
