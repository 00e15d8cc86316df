-- The digits of a number.
use Rattle.std.proofs.Common.{◌≡◌, ◌∙◌, ap, sym, refl, ℕ, ◌<◌, ◌≤◌, ◌+◌, ◌*◌, ◌/◌, ◌%◌, ◌^◌, ◌⊎◌, inl, inr, List, [], ◌∷◌, ◌++◌, arith, append-nil}
use Rattle.std.specs.Fmt.{decimal}
use Rattle.std.proofs.lemmas.Fmt.{decimal_digit, decimal_step, decimal_by_steps}
use Rattle.fx_tape.proofs.Fronts.{fronts}

-- a first byte of digits of a number
pub record First (n : ℕ) (ds : List ℕ) : Type 0 where
  pub digit : ℕ
  pub rest : List ℕ
  pub is : ds ≡ (48 + digit) ∷ rest
  pub low : digit < 10
  pub small : digit ≤ n
  pub some : 0 < n → 0 < digit

-- digits of a value before another digit of the number
pub record Before (n : ℕ) (u : List ℕ) (b : ℕ) : Type 0 where
  pub value : ℕ
  pub digit : ℕ
  pub front : n < 2 ^ 64 → u ≡ decimal value
  pub some : 0 < value
  pub is : b ≡ 48 + digit
  pub low : digit < 10
  pub small : value * 10 + digit ≤ n

pub record Digits (n : ℕ) (ds : List ℕ) : Type 0 where
  pub text : n < 2 ^ 64 → ds ≡ decimal n
  pub first : First n ds
  pub none_else : (u w : List ℕ) (e : ℕ) → (e < 48) ⊎ (57 < e) → ds ≡ u ++ e ∷ w → ⊥
  pub before : (c : ℕ) (u : List ℕ) (b : ℕ) (w : List ℕ) → ds ≡ (c ∷ u) ++ b ∷ w → Before n (c ∷ u) b

nothing_there : {A : Type 0} (u w : List A) (b : A) → [] ≡ u ++ b ∷ w → ⊥
nothing_there [] w b e = cc
nothing_there (x ∷ u) w b e = cc

other_digit : (d e : ℕ) → d < 10 → (e < 48) ⊎ (57 < e) → 48 + d ≡ e → ⊥
other_digit d e h (inl k) is = absurd (omega arith)
other_digit d e h (inr k) is = absurd (omega arith)

one_else : (n : ℕ) → n < 10 → (u w : List ℕ) (e : ℕ) → (e < 48) ⊎ (57 < e) → (48 + n) ∷ [] ≡ u ++ e ∷ w → ⊥
one_else n h [] w e k is = other_digit n e h k (cc)
one_else n h (x ∷ u) w e k is = nothing_there u w e (cc)

one_digits : (n : ℕ) → n < 10 → Digits n ((48 + n) ∷ [])
one_digits n h = record {
  text = λ q. sym (decimal_digit n h);
  first = record { digit = n; rest = []; is = refl; low = h; small = omega arith; some = λ q. q };
  none_else = one_else n h;
  before = λ c u b w is. absurd (nothing_there u w b (cc));
}

module _ (n : ℕ) (ds : List ℕ) (large : 10 ≤ n) (h : Digits (n / 10) ds) where
  last : List ℕ
  last = (48 + n % 10) ∷ []

  fewer : n / 10 < n
  fewer = omega arith

  text_more : n < 2 ^ 64 → ds ++ (48 + n % 10) ∷ [] ≡ decimal n
  text_more q = let less : n / 10 < 2 ^ 64 = omega arith in ap (λ (z : List ℕ). z ++ (48 + n % 10) ∷ []) (h.text less) ∙ sym (decimal_step n large q)

  first_more : First n (ds ++ (48 + n % 10) ∷ [])
  first_more = record {
    digit = h.first.digit;
    rest = h.first.rest ++ (48 + n % 10) ∷ [];
    is = ap (λ (z : List ℕ). z ++ (48 + n % 10) ∷ []) h.first.is;
    low = h.first.low;
    small = omega (arith, h.first.small);
    some = λ q. h.first.some (omega arith);
  }

  else_more : (u w : List ℕ) (e : ℕ) → (e < 48) ⊎ (57 < e) → ds ++ (48 + n % 10) ∷ [] ≡ u ++ e ∷ w → ⊥
  else_more u w e k is =
      elim (fronts u (e ∷ w) ds ((48 + n % 10) ∷ []) (sym is)) [
        | inl p ↦ else_at p.0 p.1 p.2
        | inr p ↦ (let none : [] ≡ p.1 ++ e ∷ w = cc (p.3) in nothing_there p.1 w e none)
      ]
    where
      else_at : (z : List ℕ) → ds ≡ u ++ z → e ∷ w ≡ z ++ (48 + n % 10) ∷ [] → ⊥
      else_at [] a b = other_digit (n % 10) e (omega arith) k (cc (b))
      else_at (d ∷ z) a b = let same : e ≡ d = cc (b) in h.none_else u z e k (a ∙ ap (λ (y : ℕ). u ++ y ∷ z) (sym same))

  before_more : (c : ℕ) (u : List ℕ) (b : ℕ) (w : List ℕ) → ds ++ (48 + n % 10) ∷ [] ≡ (c ∷ u) ++ b ∷ w → Before n (c ∷ u) b
  before_more c u b w is =
      elim (fronts (c ∷ u) (b ∷ w) ds ((48 + n % 10) ∷ []) (sym is)) [
        | inl p ↦ before_at p.0 p.1 p.2
        | inr p ↦ (let none : [] ≡ p.1 ++ b ∷ w = cc (p.3) in absurd (nothing_there p.1 w b none))
      ]
    where
      before_at : (z : List ℕ) → ds ≡ (c ∷ u) ++ z → b ∷ w ≡ z ++ (48 + n % 10) ∷ [] → Before n (c ∷ u) b
      before_at [] a e = record {
        value = n / 10;
        digit = n % 10;
        front = λ q. let less : n / 10 < 2 ^ 64 = omega arith in sym (a ∙ append-nil (c ∷ u)) ∙ h.text less;
        some = omega arith;
        is = cc (e);
        low = omega arith;
        small = omega arith;
      }
      before_at (d ∷ z) a e =
          let same : b ≡ d = cc (e) in
          let k = h.before c u b z (a ∙ ap (λ (y : ℕ). (c ∷ u) ++ y ∷ z) (sym same)) in
          record {
            value = k.value;
            digit = k.digit;
            front = λ q. k.front (omega arith);
            some = k.some;
            is = k.is;
            low = k.low;
            small = omega (arith, k.small);
          }

  more_digits : Digits n (ds ++ (48 + n % 10) ∷ [])
  more_digits = record { text = text_more; first = first_more; none_else = else_more; before = before_more }

pub digits_of : (n : ℕ) → n < 2 ^ 64 → Digits n (decimal n)
digits_of = decimal_by_steps Digits one_digits more_digits

-- a digit behind those of a number that isn't 0
pub one_more : (v d : ℕ) → 0 < v → d < 10 → v * 10 + d < 2 ^ 64 → decimal (v * 10 + d) ≡ decimal v ++ (48 + d) ∷ []
one_more v d some low short =
    let front : (v * 10 + d) / 10 ≡ v = omega arith in
    let last : (v * 10 + d) % 10 ≡ d = omega arith in
    decimal_step (v * 10 + d) (omega arith) short ∙ ap (λ (z : ℕ). decimal z ++ (48 + (v * 10 + d) % 10) ∷ []) front ∙ ap (λ (z : ℕ). decimal v ++ (48 + z) ∷ []) last
