-- What is noted down of one part of a group behind another: the numbers of each part are its own.
use Rattle.std.proofs.Common.{◌≡◌, ◌∙◌, ap, sym, refl, ℕ, suc, ◌<◌, ◌≤◌, ◌==◌, Bool, true, false, ◌||◌, List, [], ◌∷◌, ◌++◌, arith}
use Rattle.fx_algebra.specs.Groups.{is_down}
use Rattle.fx_services.specs.Noted.{AgreesOn, RiseWithin, places}
use Rattle.fx_services.specs.declared.noted.Down.{Down}

-- ---- numbers that rise

-- the last is no lower than the first
pub no_lower : (first last : ℕ) (ds : List Down) → RiseWithin first last ds → first ≤ last
no_lower first last [] h = h
no_lower first last (d ∷ ds) h = let rest : suc d.place ≤ last = no_lower (suc d.place) last ds h.1 in omega (arith, h.0, rest)

-- more may lie below the first
rise_later : (first later last : ℕ) (ds : List Down) → first ≤ later → RiseWithin later last ds → RiseWithin first last ds
rise_later first later last [] low h = omega (arith, low, h)
rise_later first later last (d ∷ ds) low h = (omega (arith, low, h.0), h.1)

pub rise_both : (first between last : ℕ) (ds more : List Down) → RiseWithin first between ds → RiseWithin between last more → RiseWithin first last (ds ++ more)
rise_both first between last [] more h k = rise_later first between last more h k
rise_both first between last (d ∷ ds) more h k = (h.0, rise_both (suc d.place) between last ds more h.1 k)

-- ---- which numbers are noted

pub apart_below : (n k : ℕ) → k < n → (n == k) ≡ false
apart_below n k low = grind arith

apart_above : (n k : ℕ) → n < k → (n == k) ≡ false
apart_above n k high = grind arith

pub none_below : (first last k : ℕ) (ds : List Down) → RiseWithin first last ds → k < first → is_down (places ds) k ≡ false
none_below first last k [] h low = refl
none_below first last k (d ∷ ds) h low =
    let here : k < d.place = omega (arith, low, h.0) in
    ap (λ (b : Bool). b || is_down (places ds) k) (apart_below d.place k here) ∙ none_below (suc d.place) last k ds h.1 (omega (arith, here))

none_above : (first last k : ℕ) (ds : List Down) → RiseWithin first last ds → last ≤ k → is_down (places ds) k ≡ false
none_above first last k [] h high = refl
none_above first last k (d ∷ ds) h high =
    let rest : suc d.place ≤ last = no_lower (suc d.place) last ds h.1 in
    ap (λ (b : Bool). b || is_down (places ds) k) (apart_above d.place k (omega (arith, rest, high))) ∙ none_above (suc d.place) last k ds h.1 high

or_assoc : (a b c : Bool) → ((a || b) || c) ≡ (a || (b || c))
or_assoc true b c = refl
or_assoc false b c = refl

or_false : (a : Bool) → (a || false) ≡ a
or_false true = refl
or_false false = refl

pub down_both : (ds more : List Down) (k : ℕ) → is_down (places (ds ++ more)) k ≡ (is_down (places ds) k || is_down (places more) k)
down_both [] more k = refl
down_both (d ∷ ds) more k = ap (λ (b : Bool). (d.place == k) || b) (down_both ds more k) ∙ sym (or_assoc (d.place == k) (is_down (places ds) k) (is_down (places more) k))

-- ---- each part

module _ (down : List ℕ) (first between last : ℕ) (ds more : List Down) (h : RiseWithin first between ds) (k : RiseWithin between last more) (all : AgreesOn down first last (ds ++ more)) where
  pub agrees_first : AgreesOn down first between ds
  agrees_first n low high =
      let top : between ≤ last = no_lower between last more k in
      all n low (omega (arith, high, top))
      ∙ down_both ds more n
      ∙ ap (λ (b : Bool). is_down (places ds) n || b) (none_below between last n more k high)
      ∙ or_false (is_down (places ds) n)

  pub agrees_next : AgreesOn down between last more
  agrees_next n low high =
      let bottom : first ≤ between = no_lower first between ds h in
      all n (omega (arith, low, bottom)) high
      ∙ down_both ds more n
      ∙ ap (λ (b : Bool). b || is_down (places more) n) (none_above first between n ds h low)

-- ---- one occurrence

-- none is noted of it
pub one_up : (down : List ℕ) (number : ℕ) → AgreesOn down number (suc number) [] → is_down down number ≡ false
one_up down number h = h number (omega arith) (omega arith)

pub the_same : (n : ℕ) → (n == n) ≡ true
the_same n = grind arith

-- it is noted
pub one_down : (down : List ℕ) (d : Down) → AgreesOn down d.place (suc d.place) (d ∷ []) → is_down down d.place ≡ true
one_down down d h = h d.place (omega arith) (omega arith) ∙ ap (λ (b : Bool). b || false) (the_same d.place)
