-- Which occurrences of SERVICE are down, by their numbers.
use Rattle.std.proofs.Common.{◌≡◌, ◌∙◌, ap, subst, refl, ℕ, zero, suc, ◌+◌, ◌<◌, ◌||◌, Bool, true, false, List, [], ◌∷◌, ◌++◌, length, Some, arith, slice_get}
use Rattle.fx_algebra.specs.Groups.{is_down}
use Rattle.fx_outcomes.specs.Calls.{Call, Came, down_from, down_if, failed, lost, told}
use Rattle.fx_services.specs.Noted.{RiseWithin, places}
use Rattle.fx_services.proofs.NotedLemmas.{down_both, none_below, rise_both, the_same}

-- whether an occurrence is down
abbrev pub has_gone : Bool → Came → Bool
has_gone silent (told rows) = false
has_gone true (failed why) = true
has_gone false (failed why) = false
has_gone silent lost = false

-- ---- numbers rise

one_rises : (n : ℕ) (silent : Bool) (iri : List ℕ) (came : Came) → RiseWithin n (suc n) (down_if n silent iri came)
one_rises n silent iri (told rows) = omega arith
one_rises n true iri (failed why) = (omega arith, omega arith)
one_rises n false iri (failed why) = omega arith
one_rises n silent iri lost = omega arith

pub down_rises : (n : ℕ) (calls : List Call) → RiseWithin n (n + length calls) (down_from n calls)
down_rises n [] = omega arith
down_rises n (c ∷ cs) =
    let next : suc n + length cs ≡ n + suc (length cs) = omega arith in
    let rest = subst (λ (m : ℕ). RiseWithin (suc n) m (down_from (suc n) cs)) next (down_rises (suc n) cs) in
    rise_both n (suc n) (n + suc (length cs)) (down_if n c.of.silent c.of.iri c.came) (down_from (suc n) cs) (one_rises n c.of.silent c.of.iri c.came) rest

-- ---- at a number

own_at : (n : ℕ) (silent : Bool) (iri : List ℕ) (came : Came) → is_down (places (down_if n silent iri came)) n ≡ has_gone silent came
own_at n silent iri (told rows) = refl
own_at n true iri (failed why) = ap (λ (b : Bool). b || false) (the_same n)
own_at n false iri (failed why) = refl
own_at n silent iri lost = refl

own_above : (n k : ℕ) → n < k → (silent : Bool) (iri : List ℕ) (came : Came) → is_down (places (down_if n silent iri came)) k ≡ false
own_above n k low silent iri (told rows) = refl
own_above n k low true iri (failed why) = grind (arith, low)
own_above n k low false iri (failed why) = refl
own_above n k low silent iri lost = refl

or_false : (b : Bool) → (b || false) ≡ b
or_false true = refl
or_false false = refl

pub down_at : (n : ℕ) (calls : List Call) (i : ℕ) (c : Call) → slice_get calls i ≡ Some c → is_down (places (down_from n calls)) (n + i) ≡ has_gone c.of.silent c.came
down_at n [] i c is = absurd (cc)
down_at n (d ∷ calls) zero c is =
    let same : d ≡ c = cc in
    let own = down_if n d.of.silent d.of.iri d.came in
    let none : n + 0 ≡ n = omega arith in
    ap (is_down (places (own ++ down_from (suc n) calls))) none
    ∙ down_both own (down_from (suc n) calls) n
    ∙ ap (λ (b : Bool). is_down (places own) n || b) (none_below (suc n) (suc n + length calls) n (down_from (suc n) calls) (down_rises (suc n) calls) (omega arith))
    ∙ or_false (is_down (places own) n)
    ∙ own_at n d.of.silent d.of.iri d.came
    ∙ ap (λ (v : Call). has_gone v.of.silent v.came) same
down_at n (d ∷ calls) (suc i) c is =
    let own = down_if n d.of.silent d.of.iri d.came in
    let next : n + suc i ≡ suc n + i = omega arith in
    let high : n < suc n + i = omega arith in
    ap (is_down (places (own ++ down_from (suc n) calls))) next
    ∙ down_both own (down_from (suc n) calls) (suc n + i)
    ∙ ap (λ (b : Bool). b || is_down (places (down_from (suc n) calls)) (suc n + i)) (own_above n (suc n + i) high d.of.silent d.of.iri d.came)
    ∙ down_at (suc n) calls i c is
