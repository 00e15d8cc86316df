-- What std's search in a text says, in the words of the definitions.
use Rattle.std.proofs.Common.{◌≡◌, ◌∙◌, refl, ap, sym, subst, ℕ, ◌+◌, ◌||◌, Bool, true, false, nat_eq, List, [], ◌∷◌, ◌++◌, take, drop, length, Option, Some, None, option_map, if◌then◌else◌}
use Rattle.std.specs.Prelude.{◌↔◌, MatchOption}
use Rattle.std.specs.Borrow.{Bor}
use Rattle.std.specs.Cmp.Lexicographic.{pointwise}
use Rattle.std.specs.Str.{bytes_eq}
use Rattle.std.specs.Str.Iter.{HasSubslice}
use Rattle.std.proofs.lemmas.Bool.Decides.{Decides-eqb}
use Rattle.std.proofs.lemmas.Slice.Eq.{starts_is}
use Rattle.fx_algebra.specs.Words.{begins, has_part}

begins_gives : (s p : List ℕ) → begins s p ≡ true → s ≡ p ++ drop (length p) s
unfolding begins
begins_gives s p h = (starts_is Decides-eqb s p (begins s p) refl).0 h

begins_from : (s p rest : List ℕ) → s ≡ p ++ rest → begins s p ≡ true
unfolding begins
begins_from s p rest h = (starts_is Decides-eqb s p (begins s p) refl).1 rest h

gives_at : (c : ℕ) (cs p : List ℕ) (b : Bool) → begins (c ∷ cs) p ≡ b → (has_part cs p ≡ true → HasSubslice cs p) → (b || has_part cs p) ≡ true → HasSubslice (c ∷ cs) p
gives_at c cs p true e rest h = ([], drop (length p) (c ∷ cs), begins_gives (c ∷ cs) p e)
gives_at c cs p false e rest h = let found = rest h in (c ∷ found.0, found.1, ap (λ (t : List ℕ). c ∷ t) found.2)

gives : (s p : List ℕ) → has_part s p ≡ true → HasSubslice s p
unfolding has_part
gives [] p h = ([], drop (length p) [], begins_gives [] p h)
gives (c ∷ cs) p h = gives_at c cs p (begins (c ∷ cs) p) refl (gives cs p) h

or_true : (b : Bool) → (b || true) ≡ true
or_true true = refl
or_true false = refl

here : (s p : List ℕ) → begins s p ≡ true → has_part s p ≡ true
unfolding has_part
here [] p h = h
here (c ∷ cs) p h = rw h refl

from : (a b p s : List ℕ) → s ≡ a ++ (p ++ b) → has_part s p ≡ true
unfolding has_part
from [] b p s h = here s p (begins_from s p b h)
from (x ∷ a) b p s h =
    let rest : has_part (a ++ (p ++ b)) p ≡ true = from a b p (a ++ (p ++ b)) refl in
    subst (λ (t : List ℕ). has_part t p ≡ true) (sym h) (ap (λ (v : Bool). begins (x ∷ (a ++ (p ++ b))) p || v) rest ∙ or_true (begins (x ∷ (a ++ (p ++ b))) p))

pub has_part_so : (s p : List ℕ) (r : Bool) → ((r ≡ true) ↔ HasSubslice s p) → r ≡ has_part s p
has_part_so s p true h = let found = h.0 refl in sym (from found.0 found.1 p s found.2)
has_part_so s p false h = pick (has_part s p) refl
  where
    pick : (b : Bool) → has_part s p ≡ b → false ≡ b
    pick true e = h.1 (gives s p e)
    pick false e = refl

-- what is left of a text behind its front
pub behind_front : (front text : List ℕ) (r : Option (Bor (List ℕ)))
    → MatchOption r (pointwise nat_eq (take (length front) text) front ≡ false) (λ x. (pointwise nat_eq (take (length front) text) front ≡ true) × (x.now ≡ drop (length front) text) × (length x.now + length front ≡ length text))
    → option_map (λ (x : Bor (List ℕ)). x.now) r ≡ (if bytes_eq (take (length front) text) front then Some (drop (length front) text) else None)
behind_front front text None h = rw h refl
behind_front front text (Some x) h = rw h.0 (ap Some h.1)
