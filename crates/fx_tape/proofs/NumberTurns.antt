-- The loop over the digits of a number.
use Rattle.std.proofs.Common.{◌≡◌, ◌≢◌, ◌∙◌, ap, sym, subst, refl, ℕ, zero, suc, ◌<◌, ◌≤◌, ◌+◌, ◌*◌, ◌-◌, Bool, true, false, ◌==◌, List, [], ◌∷◌, ◌++◌, length, take, drop, get_or, arith, rules, tests, append-nil, add-one}
use Rattle.std.specs.Fmt.{decimal}
use Rattle.std.proofs.lemmas.Fmt.{decimal_digit}
use Rattle.std.proofs.lemmas.List.{take_all}
use Rattle.fx_tape.specs.Pieces.{number, goes_on}
use Rattle.fx_tape.specs.Spellings.{Stops, Begins}
use Rattle.fx_tape.proofs.NumberLemmas.{one_more}
use Rattle.fx_tape.proofs.PieceLemmas.{cut, left_behind, further, number_none, number_other, number_begins}

-- the bytes before a place are the digits of a value of the range, where there are any
pub record Digited (least most : ℕ) (bytes : List ℕ) (place value : ℕ) : Type 0 where
  pub within : place ≤ length bytes
  pub high : value ≤ most
  pub none : place ≡ 0 → value ≡ 0
  pub front : 0 < place → take place bytes ≡ decimal value
  pub low : 0 < place → least ≤ value

take_more : (bytes : List ℕ) (place : ℕ) → place < length bytes → take (suc place) bytes ≡ take place bytes ++ get_or bytes place 0 ∷ []
take_more [] place h = absurd (omega arith)
take_more (b ∷ bytes) zero h = refl
take_more (b ∷ bytes) (suc place) h = ap (λ (z : List ℕ). b ∷ z) (take_more bytes place (omega arith))

module _ (least most : ℕ) (short : most ≤ 67174400) (bytes : List ℕ) where
  turn : (place value d : ℕ) → place < length bytes → get_or bytes place 0 ≡ 48 + d → d < 10 → Digited least most bytes place value
      → (place ≡ 0 → (least ≤ d) × (d ≤ most)) → (0 < place → (0 < value) × (value * 10 + d ≤ most)) → Digited least most bytes (place + 1) (value * 10 + d)
  turn zero value d inside is low h first behind =
      let p = first refl in
      let a = p.0 in
      let b = p.1 in
      let nothing = h.none refl in
      let value_is : value * 10 + d ≡ d = omega arith in
      record {
        within = omega arith;
        high = omega arith;
        none = λ e. absurd (omega arith);
        front = λ k. rw add-one (take_more bytes zero inside) ∙ ap (λ (z : ℕ). z ∷ []) is ∙ sym (decimal_digit d low) ∙ ap decimal (sym value_is);
        low = λ k. omega arith;
      }
  turn (suc place) value d inside is low h first behind =
      let p = behind (omega arith) in
      let a = p.0 in
      let b = p.1 in
      let l = h.low (omega arith) in
      record {
        within = omega arith;
        high = b;
        none = λ e. absurd (omega arith);
        front = λ k. rw add-one (take_more bytes (suc place) inside) ∙ ap (λ (z : List ℕ). z ++ get_or bytes (suc place) 0 ∷ []) (h.front (omega arith)) ∙ ap (λ (z : ℕ). decimal value ++ z ∷ []) is ∙ sym (one_more value d a low (omega arith));
        low = λ k. omega arith;
      }

  is_first : (place : ℕ) → (place == 0) ≡ true → place ≡ 0
  is_first zero e = refl
  is_first (suc n) e = search (rules, tests)

  first_is : (place : ℕ) → place ≡ 0 → (place == 0) ≡ true
  first_is zero e = refl
  first_is (suc n) e = absurd (omega arith)

  not_first : (place : ℕ) → 0 < place → (place == 0) ≡ false
  not_first zero h = absurd (omega arith)
  not_first (suc n) h = search (rules, tests)

  pub digited_more : (place value b : ℕ) → place < length bytes → get_or bytes place 0 ≡ b → Digited least most bytes place value → goes_on least most (place == 0) value b ≡ true → Digited least most bytes (place + 1) (value * 10 + (b - 48))
  digited_more place value b inside is h e =
      let k = further least most (place == 0) value b e in
      let there = k.is in
      let digit : b - 48 ≡ k.digit = omega arith in
      subst (λ (z : ℕ). Digited least most bytes (place + 1) (value * 10 + z)) (sym digit)
      (turn place value k.digit inside (is ∙ k.is) k.low h (λ q. k.begins (first_is place q)) (λ q. k.goes (not_first place q)))

  module _ (end : ℕ) (one : least ≤ 1) (some : 1 ≤ most) (ends : end < 48) where
    -- no digit stands there
    pub none_there : (place value : ℕ) → place ≡ 0 → Digited least most bytes place value → (place < length bytes → goes_on least most (place == 0) value (get_or bytes place 0) ≡ false) → Stops (number least most end) bytes (length bytes - place)
    none_there (suc place) value is h none = absurd (omega arith)
    none_there zero value is h none =
        let all : length bytes ≡ length bytes - 0 = omega arith in
        subst (λ (z : ℕ). Stops (number least most end) bytes z) all
        (number_none least most end one some short ends bytes
        (λ b others e. subst (λ (z : ℕ). goes_on least most true z b ≡ false) (h.none refl) (at b others bytes e none)))
      where
        at : (b : ℕ) (others bs : List ℕ) → bs ≡ b ∷ others → (0 < length bs → goes_on least most true value (get_or bs 0 0) ≡ false) → goes_on least most true value b ≡ false
        at b others [] e n = absurd (cc (e))
        at b others (d ∷ bs) e n = let same : d ≡ b = cc (e) in subst (λ (z : ℕ). goes_on least most true value z ≡ false) same (n (omega arith))

    -- the bytes end behind digits
    pub ended_there : (place value : ℕ) → 0 < place → place ≡ length bytes → Digited least most bytes place value → Stops (number least most end) bytes (length bytes - place)
    ended_there place value some_digit over h =
        let front = h.front some_digit in
        let all : bytes ≡ decimal value ++ [] = sym (take_all place bytes (omega arith)) ∙ front ∙ sym (append-nil (decimal value)) in
        let none : length bytes - place ≡ 0 = omega arith in
        subst (λ (z : ℕ). Stops (number least most end) bytes z) (sym none)
        (number_other least most end one some short ends value (h.low some_digit) h.high bytes [] all (λ b others e. absurd (cc (e))))

    -- something else stands there
    pub other_there : (place value : ℕ) → 0 < place → place < length bytes → Digited least most bytes place value → get_or bytes place 0 ≢ end → goes_on least most (place == 0) value (get_or bytes place 0) ≡ false → Stops (number least most end) bytes (length bytes - place)
    other_there place value some_digit inside h other stops =
        let front = h.front some_digit in
        let all : bytes ≡ decimal value ++ get_or bytes place 0 ∷ drop (place + 1) bytes = cut bytes place inside ∙ ap (λ (z : List ℕ). z ++ get_or bytes place 0 ∷ drop (place + 1) bytes) front in
        subst (λ (z : ℕ). Stops (number least most end) bytes z) (sym (left_behind bytes place inside))
        (number_other least most end one some short ends value (h.low some_digit) h.high bytes (get_or bytes place 0 ∷ drop (place + 1) bytes) all
        (λ b others e.
        let same : get_or bytes place 0 ≡ b = cc (e) in
        ((λ is. other (same ∙ is)), subst (λ (z : ℕ). goes_on least most false value z ≡ false) same (subst (λ (f : Bool). goes_on least most f value (get_or bytes place 0) ≡ false) (not_first place some_digit) stops))))

    pub read_there : (place value : ℕ) → 0 < place → place < length bytes → Digited least most bytes place value → get_or bytes place 0 ≡ end → Begins (number least most end) bytes value (drop (place + 1) bytes)
    read_there place value some_digit inside h is =
        number_begins least most end one some short ends value (h.low some_digit) h.high bytes (drop (place + 1) bytes)
        (cut bytes place inside ∙ ap (λ (z : List ℕ). z ++ get_or bytes place 0 ∷ drop (place + 1) bytes) (h.front some_digit) ∙ ap (λ (z : ℕ). decimal value ++ z ∷ drop (place + 1) bytes) is)
