-- The order of numbers by their digits: of two without leading zeros the shorter is the less, and of two as long the first digit that differs decides.
use Rattle.std.proofs.Common.{◌≡◌, ◌∙◌, refl, sym, ap, subst, ℕ, zero, suc, ◌+◌, ◌*◌, ◌^◌, ◌<◌, ◌≤◌, Bool, true, false, ◌&&◌, nat_eq, List, [], ◌∷◌, length, arith}
use Rattle.std.specs.Prelude.{pos, neg_ℤ, nat_le, int_le, if◌then◌else◌, ◌≢◌}
use Rattle.std.specs.declared.cmp.Ordering.{Ordering}
use Rattle.std.specs.declared.cmp.Ordering.TheVariants.{Less, Equal, Greater}
use Rattle.std.specs.Ordering.{nat_cmp, ordering_then, is_le, MatchOrdering}
use Rattle.std.specs.Cmp.Lexicographic.{slice_cmp}
use Rattle.std.specs.Char.{digit_value}
use Rattle.std.specs.Str.Parse.{AllDigits, digits_value, digits_value_after}
use Rattle.std.proofs.Math.Nat.{pow-succ', mul-le-mul_right, pow-le-pow_right}
use Rattle.std.proofs.lemmas.Bool.Decides.{nat_tests}
use Rattle.std.proofs.lemmas.Bool.{le-leb, lt-leb, eqb-true, eqb-false, ne_eqb, and_left, and_right}
use Rattle.std.proofs.lemmas.Cmp.{ranked}
use Rattle.std.proofs.lemmas.Int.Digits.{digits_value-lt}
use Rattle.std.proofs.lemmas.Str.{digit_value_digit}
use Rattle.std.proofs.lemmas.Str.Parse.{digit_from_value}
use Rattle.fx_expr.specs.Digits.{IsPlain, without_zeros}

-- ---- how large a number of some digits is

-- one more digit behind n, where p is the weight of n
grown : (n d p v : ℕ) → (n * 10 + d) * p ≤ v → n * (10 * p) ≤ v
grown n d p v h = omega (arith, h)

bounded : (n d p v : ℕ) → d < 10 → v < (n * 10 + d + 1) * p → v < (n + 1) * (10 * p)
bounded n d p v h k =
    let step : n * 10 + d + 1 ≤ (n + 1) * 10 = omega arith in
    omega (arith, mul-le-mul_right p step)

apart : (a b p v w : ℕ) → a < b → v < (a + 1) * p → b * p ≤ w → v < w
apart a b p v w h k l =
    let step : a + 1 ≤ b = omega arith in
    omega (arith, mul-le-mul_right p step)

least_after : (n : ℕ) (ds : List ℕ) → n * 10 ^ length ds ≤ digits_value_after 10 n ds
least_after n [] = omega arith
least_after n (c ∷ cs) =
    let more : 10 ^ length (c ∷ cs) ≡ 10 * 10 ^ length cs = pow-succ' 10 (length cs) in
    rw more (grown n (digit_value c) (10 ^ length cs) (digits_value_after 10 (n * 10 + digit_value c) cs) (least_after (n * 10 + digit_value c) cs))

most_after : (n : ℕ) (ds : List ℕ) → AllDigits 10 ds → digits_value_after 10 n ds < (n + 1) * 10 ^ length ds
most_after n [] h = omega arith
most_after n (c ∷ cs) h =
    let more : 10 ^ length (c ∷ cs) ≡ 10 * 10 ^ length cs = pow-succ' 10 (length cs) in
    rw more (bounded n (digit_value c) (10 ^ length cs) (digits_value_after 10 (n * 10 + digit_value c) cs) h.0 (most_after (n * 10 + digit_value c) cs h.1))

-- ---- digits as long

digits_rise : (d e : ℕ) → digit_value d < 10 → digit_value e < 10 → d < e → digit_value d < digit_value e
digits_rise d e h k l =
    let r = digit_from_value d h in
    let s = digit_from_value e k in
    omega (arith, digit_value_digit d r, digit_value_digit e s)

-- the first digits differ
first_less : (n d e : ℕ) (ds es : List ℕ) → length ds ≡ length es → AllDigits 10 (d ∷ ds) → AllDigits 10 (e ∷ es) → d < e
    → digits_value_after 10 n (d ∷ ds) < digits_value_after 10 n (e ∷ es)
first_less n d e ds es same h k l =
    let rise : n * 10 + digit_value d < n * 10 + digit_value e = omega (arith, digits_rise d e h.0 k.0 l) in
    apart (n * 10 + digit_value d) (n * 10 + digit_value e) (10 ^ length es) (digits_value_after 10 n (d ∷ ds)) (digits_value_after 10 n (e ∷ es)) rise
    (subst (λ (m : ℕ). digits_value_after 10 n (d ∷ ds) < (n * 10 + digit_value d + 1) * 10 ^ m) same (most_after (n * 10 + digit_value d) ds h.1))
    (least_after (n * 10 + digit_value e) es)

-- what an order says of the numbers v and w
abbrev pub Tells : Ordering → ℕ → ℕ → Type 0
Tells o v w = MatchOrdering o (v < w) (v ≡ w) (w < v)

-- by the order of the first digits, where l tells of the others behind the same first digit
by_first : (n d e : ℕ) (ds es : List ℕ) → length ds ≡ length es → AllDigits 10 (d ∷ ds) → AllDigits 10 (e ∷ es)
    → Tells (slice_cmp nat_cmp ds es) (digits_value_after 10 (n * 10 + digit_value d) ds) (digits_value_after 10 (n * 10 + digit_value d) es)
    → (o : Ordering) → MatchOrdering o (d < e) (d ≡ e) (e < d)
    → Tells (ordering_then o (slice_cmp nat_cmp ds es)) (digits_value_after 10 n (d ∷ ds)) (digits_value_after 10 n (e ∷ es))
by_first n d e ds es same h k others Less l = first_less n d e ds es same h k l
by_first n d e ds es same h k others Equal l =
    subst (λ (x : ℕ). Tells (slice_cmp nat_cmp ds es) (digits_value_after 10 (n * 10 + digit_value d) ds) (digits_value_after 10 (n * 10 + digit_value x) es)) l others
by_first n d e ds es same h k others Greater l = first_less n e d es ds (sym same) k h l

shorter_by_one : (d e : ℕ) (ds es : List ℕ) → length (d ∷ ds) ≡ length (e ∷ es) → length ds ≡ length es
shorter_by_one d e ds es same = omega (arith, same)

as_long : (n : ℕ) (ds es : List ℕ) → length ds ≡ length es → AllDigits 10 ds → AllDigits 10 es → Tells (slice_cmp nat_cmp ds es) (digits_value_after 10 n ds) (digits_value_after 10 n es)
as_long n [] [] same h k = refl
as_long n [] (e ∷ es) same h k = absurd (omega (arith, same))
as_long n (d ∷ ds) [] same h k = absurd (omega (arith, same))
as_long n (d ∷ ds) (e ∷ es) same h k =
    let rest = shorter_by_one d e ds es same in
    by_first n d e ds es rest h k (as_long (n * 10 + digit_value d) ds es rest h.1 k.1) (nat_cmp d e) (ranked d e (nat_cmp d e) refl)

-- ---- digits without leading zeros

-- the first digit isn't 0
first_some : (e : ℕ) → digit_value e < 10 → e ≢ 48 → 1 ≤ digit_value e
first_some e h other = let r = digit_from_value e h in omega (arith, digit_value_digit e r, other)

longer : (ds es : List ℕ) → AllDigits 10 ds → IsPlain es → length ds < length es → digits_value 10 ds < digits_value 10 es
longer ds [] h k l = absurd (omega arith)
longer ds (e ∷ es) h k l =
    let small : digits_value 10 ds < 10 ^ length ds = digits_value-lt 10 ds h in
    let most : length ds ≤ length es = omega arith in
    let less : 10 ^ length ds ≤ 10 ^ length es = pow-le-pow_right {n = 10} (omega arith) most in
    let some : 1 ≤ digit_value e = first_some e k.digits.0 k.first in
    let weight : 1 * 10 ^ length es ≤ digit_value e * 10 ^ length es = mul-le-mul_right (10 ^ length es) some in
    let large : (0 * 10 + digit_value e) * 10 ^ length es ≤ digits_value 10 (e ∷ es) = least_after (0 * 10 + digit_value e) es in
    omega arith

pub by_digits : (ds es : List ℕ) → IsPlain ds → IsPlain es → Tells (ordering_then (nat_cmp (length ds) (length es)) (slice_cmp nat_cmp ds es)) (digits_value 10 ds) (digits_value 10 es)
by_digits ds es h k = by_length (nat_cmp (length ds) (length es)) (ranked (length ds) (length es) (nat_cmp (length ds) (length es)) refl)
  where
    by_length : (o : Ordering) → MatchOrdering o (length ds < length es) (length ds ≡ length es) (length es < length ds) → Tells (ordering_then o (slice_cmp nat_cmp ds es)) (digits_value 10 ds) (digits_value 10 es)
    by_length Less l = longer ds es h.digits k l
    by_length Equal l = as_long 0 ds es l h.digits k.digits
    by_length Greater l = longer es ds k.digits h l

pub told : (o : Ordering) (m n : ℕ) → Tells o m n → is_le o ≡ nat_le m n
told Less m n h = sym (le-leb m n (omega (arith, h)))
told Equal m n h = sym (le-leb m n (omega (arith, h)))
told Greater m n h = sym (lt-leb m n h)

-- ---- leading zeros

value_behind : (c : ℕ) (cs : List ℕ) → digits_value 10 (without_zeros cs) ≡ digits_value 10 cs → (b : Bool) → nat_eq c 48 ≡ b
    → digits_value 10 (if b then without_zeros cs else (c ∷ cs)) ≡ digits_value 10 (c ∷ cs)
value_behind c cs rest true e = rest ∙ ap (λ (x : ℕ). digits_value_after 10 (0 * 10 + digit_value x) cs) (sym (eqb-true c 48 e))
value_behind c cs rest false e = refl

pub zeros_value : (ds : List ℕ) → digits_value 10 (without_zeros ds) ≡ digits_value 10 ds
zeros_value [] = refl
zeros_value (c ∷ cs) = value_behind c cs (zeros_value cs) (nat_eq c 48) refl

plain_behind : (c : ℕ) (cs : List ℕ) → AllDigits 10 (c ∷ cs) → IsPlain (without_zeros cs) → (b : Bool) → nat_eq c 48 ≡ b → IsPlain (if b then without_zeros cs else (c ∷ cs))
plain_behind c cs h rest true e = rest
plain_behind c cs h rest false e = record { digits = h; first = eqb-false c 48 e }

pub zeros_plain : (ds : List ℕ) → AllDigits 10 ds → IsPlain (without_zeros ds)
zeros_plain [] h = record { digits = tt; first = λ e. omega (arith, e) }
zeros_plain (c ∷ cs) h = plain_behind c cs h (zeros_plain cs h.1) (nat_eq c 48) refl

-- ---- signs

pub minus_up_to : (m n : ℕ) → true ≡ int_le (neg_ℤ (pos m)) (pos n)
minus_up_to zero n = sym (le-leb 0 n (omega arith))
minus_up_to (suc m) n = refl

one_more_each : (m n : ℕ) → nat_le (suc n) (suc m) ≡ nat_le n m
one_more_each m n = grind (arith, nat_tests)

pub minus_both : (m n : ℕ) → nat_le n m ≡ int_le (neg_ℤ (pos m)) (neg_ℤ (pos n))
minus_both zero zero = refl
minus_both zero (suc n) = lt-leb (suc n) 0 (omega arith)
minus_both (suc m) zero = le-leb 0 (suc m) (omega arith)
minus_both (suc m) (suc n) = one_more_each m n

below_minus : (m n : ℕ) → 0 < n → false ≡ int_le (pos m) (neg_ℤ (pos n))
below_minus m zero h = absurd (omega arith)
below_minus m (suc n) h = refl

-- a number is at most a negative only where both are 0
pub up_to_minus : (ds es : List ℕ) → IsPlain ds → IsPlain es → (nat_eq (length ds) 0 && nat_eq (length es) 0) ≡ int_le (pos (digits_value 10 ds)) (neg_ℤ (pos (digits_value 10 es)))
up_to_minus [] [] h k = refl
up_to_minus (d ∷ ds) [] h k =
    and_left (nat_eq (length (d ∷ ds)) 0) true (ne_eqb (length (d ∷ ds)) 0 (λ e. omega (arith, e)))
    ∙ sym (lt-leb (digits_value 10 (d ∷ ds)) 0 (longer [] (d ∷ ds) tt h (omega arith)))
up_to_minus ds (e ∷ es) h k =
    and_right (nat_eq (length ds) 0) (nat_eq (length (e ∷ es)) 0) (ne_eqb (length (e ∷ es)) 0 (λ q. omega (arith, q)))
    ∙ below_minus (digits_value 10 ds) (digits_value 10 (e ∷ es)) (longer [] (e ∷ es) tt k (omega arith))
