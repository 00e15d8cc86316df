-- The bytes of characters (Unicode, table 3-7).
use Rattle.std.proofs.Common.{◌≡◌, ℕ, ◌+◌, ◌-◌, ◌*◌, ◌/◌, ◌<◌, ◌≤◌, ◌⊎◌, inl, inr, Bool, true, false, cond, List, [], ◌∷◌, ◌++◌, length, refl, sym, ap, ◌∙◌, subst, arith, get_or, length-append}
use Rattle.std.proofs.lemmas.Bool.{cases_lt, and_parts}
use Rattle.std.proofs.lemmas.Bool.Decides.{nat_tests}
use Rattle.std.specs.Str.{IsUtf8}
use Rattle.std.proofs.lemmas.Str.{IsUtf8-encode, IsUtf8-drop, IsCharBoundary-from_take}
use lib.Dec.{T, ltb, ltb→lt, lt→ltb}
use lib.Utf8.{scalar, scalars, encode, encodes, next, scalar_cases, low_scalar}
use Rattle.std.proofs.Math.Seq.{take-append_seam, drop-append_seam}

pub order : (m n : ℕ) → (m < n) ⊎ (n ≤ m)
order m n = cases_lt m n

-- a byte behind the first of a character
abbrev pub Follows : ℕ → Type 0
Follows b = (128 ≤ b) × (b < 192)

abbrev Scalar : ℕ → Type 0
Scalar c = (c < 55296) ⊎ ((57344 ≤ c) × (c < 1114112))

taken : {X : Type 0} (y : Bool) (a b : X) → T y → cond y a b ≡ a
taken true a b t = refl
taken false a b t = absurd t

passed : {X : Type 0} (m n : ℕ) (a b : X) → n ≤ m → cond (ltb m n) a b ≡ b
passed {X} m n a b le = by_test (ltb m n) refl
  where
    by_test : (y : Bool) → ltb m n ≡ y → cond y a b ≡ b
    by_test true e = let lt : m < n = ltb→lt m n (subst T (sym e) tt) in absurd (omega arith)
    by_test false e = refl

one : (c : ℕ) → c < 128 → encode c ≡ c ∷ []
unfolding encode
one c h = taken (ltb c 128) _ _ (lt→ltb c 128 h)

two : (c : ℕ) → 128 ≤ c → c < 2048 → encode c ≡ (192 + c / 64) ∷ next c ∷ []
unfolding encode
two c l h = passed c 128 _ _ l ∙ taken (ltb c 2048) _ _ (lt→ltb c 2048 h)

three : (c : ℕ) → 2048 ≤ c → c < 65536 → encode c ≡ (224 + c / 4096) ∷ next (c / 64) ∷ next c ∷ []
unfolding encode
three c l h = passed c 128 _ _ (omega arith) ∙ passed c 2048 _ _ l ∙ taken (ltb c 65536) _ _ (lt→ltb c 65536 h)

four : (c : ℕ) → 65536 ≤ c → encode c ≡ (240 + c / 262144) ∷ next (c / 4096) ∷ next (c / 64) ∷ next c ∷ []
unfolding encode
four c l = passed c 128 _ _ (omega arith) ∙ passed c 2048 _ _ (omega arith) ∙ passed c 65536 _ _ l

high_scalar : (c : ℕ) → 57344 ≤ c → c < 1114112 → scalar c ≡ true
high_scalar c l u = grind (arith, nat_tests)

-- ---- bytes in the ranges of a character are UTF-8

pub one_ok : (x : ℕ) → x < 128 → IsUtf8 (x ∷ [])
one_ok x h = subst IsUtf8 (one x h) (IsUtf8-encode x (low_scalar x (omega arith)))

pub two_ok : (x y : ℕ) → 194 ≤ x → x < 224 → Follows y → IsUtf8 (x ∷ y ∷ [])
two_ok x y h k f =
    let c = (x - 192) * 64 + (y - 128) in
    let p : 192 + c / 64 ≡ x = omega arith in
    let q : next c ≡ y = omega arith in
    subst IsUtf8 (two c (omega arith) (omega arith) ∙ (λ i. p i ∷ q i ∷ [])) (IsUtf8-encode c (low_scalar c (omega arith)))

pub three_ok : (x y z : ℕ) → 224 ≤ x → x < 240 → Follows y → (x ≡ 224 → 160 ≤ y) → (x ≡ 237 → y < 160) → Follows z → IsUtf8 (x ∷ y ∷ z ∷ [])
three_ok x y z h k f low high g =
    let c = (x - 224) * 4096 + (y - 128) * 64 + (z - 128) in
    let p : 224 + c / 4096 ≡ x = omega arith in
    let q : next (c / 64) ≡ y = omega arith in
    let r : next c ≡ z = omega arith in
    subst IsUtf8 (three c least (omega arith) ∙ (λ i. p i ∷ q i ∷ r i ∷ [])) (IsUtf8-encode c is_scalar)
  where
    least : 2048 ≤ (x - 224) * 4096 + (y - 128) * 64 + (z - 128)
    least = elim (order 224 x) [ inl a ↦ omega arith | inr a ↦ let e : x ≡ 224 = omega arith in let l = low e in omega arith ]

    is_scalar : scalar ((x - 224) * 4096 + (y - 128) * 64 + (z - 128)) ≡ true
    is_scalar = elim (order x 237) [
      | inl a ↦ low_scalar ((x - 224) * 4096 + (y - 128) * 64 + (z - 128)) (omega arith)
      | inr a ↦ elim (order 237 x) [ inl b ↦ high_scalar ((x - 224) * 4096 + (y - 128) * 64 + (z - 128)) (omega arith) (omega arith) | inr b ↦ let e : x ≡ 237 = omega arith in let l = high e in low_scalar ((x - 224) * 4096 + (y - 128) * 64 + (z - 128)) (omega arith) ]
    ]

pub four_ok : (x y z w : ℕ) → 240 ≤ x → x ≤ 244 → Follows y → (x ≡ 240 → 144 ≤ y) → (x ≡ 244 → y < 144) → Follows z → Follows w → IsUtf8 (x ∷ y ∷ z ∷ w ∷ [])
four_ok x y z w h k f low high g j =
    let c = (x - 240) * 262144 + (y - 128) * 4096 + (z - 128) * 64 + (w - 128) in
    let p : 240 + c / 262144 ≡ x = omega arith in
    let q : next (c / 4096) ≡ y = omega arith in
    let e : c / 64 ≡ (x - 240) * 4096 + (y - 128) * 64 + (z - 128) = omega arith in
    let r : next (c / 64) ≡ z = ap next e ∙ omega arith in
    let t : next c ≡ w = omega arith in
    subst IsUtf8 (four c (omega (arith, least)) ∙ (λ i. p i ∷ q i ∷ r i ∷ t i ∷ [])) (IsUtf8-encode c (high_scalar c (omega (arith, least)) (omega (arith, most))))
  where
    least : 16 ≤ (x - 240) * 64 + (y - 128)
    least = elim (order 240 x) [ inl a ↦ omega arith | inr a ↦ let e : x ≡ 240 = omega arith in let l = low e in omega arith ]

    most : (x - 240) * 64 + (y - 128) < 272
    most = elim (order x 244) [ inl a ↦ omega arith | inr a ↦ let e : x ≡ 244 = omega arith in let l = high e in omega arith ]

-- ---- what the first bytes of UTF-8 are

data Shape (c : ℕ) : Type 0 where
  of1 : c < 128 → encode c ≡ c ∷ [] → Shape c
  of2 : (a b : ℕ) → 194 ≤ a → a < 224 → Follows b → encode c ≡ a ∷ b ∷ [] → Shape c
  of3 : (a b d : ℕ) → 224 ≤ a → a < 240 → Follows b → Follows d → 2048 ≤ c → c + 925824 ≡ a * 4096 + b * 64 + d → encode c ≡ a ∷ b ∷ d ∷ [] → Shape c
  of4 : (a b d e : ℕ) → 240 ≤ a → a < 248 → Follows b → Follows d → Follows e → 65536 ≤ c → c + 63447168 ≡ a * 262144 + b * 4096 + d * 64 + e → encode c ≡ a ∷ b ∷ d ∷ e ∷ [] → Shape c

follows : (x : ℕ) → Follows (next x)
follows x = (omega arith, omega arith)

below : (c : ℕ) → Scalar c → c < 1114112
below c (inl h) = omega arith
below c (inr h) = h.1

shape : (c : ℕ) → Scalar c → Shape c
shape c s = by (order c 128) (order c 2048) (order c 65536)
  where
    by : (c < 128) ⊎ (128 ≤ c) → (c < 2048) ⊎ (2048 ≤ c) → (c < 65536) ⊎ (65536 ≤ c) → Shape c
    by (inl h) _ _ = of1 h (one c h)
    by (inr l) (inl h) _ = of2 (192 + c / 64) (next c) (omega arith) (omega arith) (follows c) (two c l h)
    by (inr _) (inr l) (inl h) = of3 (224 + c / 4096) (next (c / 64)) (next c) (omega arith) (omega arith) (follows (c / 64)) (follows c) l (omega arith) (three c l h)
    by (inr _) (inr _) (inr l) = let top : c < 1114112 = below c s in of4 (240 + c / 262144) (next (c / 4096)) (next (c / 64)) (next c) (omega arith) (omega arith) (follows (c / 4096)) (follows (c / 64)) (follows c) l (omega arith) (four c l)

-- of n bytes that begin x, y, z, w and begin with a character
pub record Ranged (n x y z w : ℕ) : Type 0 where
  pub second : 128 ≤ x → (194 ≤ x) × (1 < n) × Follows y
  pub third : 224 ≤ x → (2 < n) × Follows z
  pub in_three : 224 ≤ x → x < 240 → let high : ℕ = (x - 224) * 64 + (y - 128) in (32 ≤ high) × ((high < 864) ⊎ (896 ≤ high))
  pub fourth : 240 ≤ x → (3 < n) × Follows w × (let high : ℕ = (x - 240) * 64 + (y - 128) in (16 ≤ high) × (high < 272))

abbrev pub RangedAt : List ℕ → Type 0
RangedAt l = Ranged (length l) (get_or l 0 0) (get_or l 1 0) (get_or l 2 0) (get_or l 3 0)

ranged : (c : ℕ) (r : List ℕ) → Scalar c → Shape c → RangedAt (encode c ++ r)
ranged c r k (of1 l e) = subst (λ p. RangedAt (p ++ r)) (sym e) (record {
  second = λ t. absurd (omega arith);
  third = λ t. absurd (omega arith);
  in_three = λ t v. absurd (omega arith);
  fourth = λ t. absurd (omega arith);
})
ranged c r k (of2 a b l u f e) = subst (λ p. RangedAt (p ++ r)) (sym e) (record {
  second = λ t. (l, omega arith, f);
  third = λ t. absurd (omega arith);
  in_three = λ t v. absurd (omega arith);
  fourth = λ t. absurd (omega arith);
})
ranged c r k (of3 a b d l u f g least s e) = subst (λ p. RangedAt (p ++ r)) (sym e) (record {
  second = λ t. (omega arith, omega arith, f);
  third = λ t. (omega arith, g);
  in_three = λ t v. (omega arith, elim (order ((a - 224) * 64 + (b - 128)) 864) [ inl p ↦ inl (omega arith) | inr p ↦ inr (elim k [ inl q ↦ absurd (omega arith) | inr q ↦ omega arith ]) ]);
  fourth = λ t. absurd (omega arith);
})
ranged c r k (of4 a b d x l u f g h least s e) = subst (λ p. RangedAt (p ++ r)) (sym e) (record {
  second = λ t. (omega arith, omega arith, f);
  third = λ t. (omega arith, g);
  in_three = λ t v. absurd (omega arith);
  fourth = λ t. (omega arith, h, (omega arith, elim k [ inl q ↦ omega arith | inr q ↦ omega arith ]));
})

ranged_by : (cs bs : List ℕ) → 0 < length bs → scalars cs ≡ true → encodes cs ≡ bs → RangedAt bs
ranged_by [] bs some h e = absurd (omega (arith, ap length e))
ranged_by (c ∷ cs) bs some h e = let s = scalar_cases c (and_parts (scalar c) (scalars cs) h).0 in subst RangedAt e (ranged c (encodes cs) s (shape c s))

pub ranges : (bs : List ℕ) → 0 < length bs → IsUtf8 bs → RangedAt bs
ranges bs some u = ranged_by u.0 bs some u.1.0 u.1.1

-- what follows UTF-8 within UTF-8
pub rest_utf8 : (a b : List ℕ) → IsUtf8 a → IsUtf8 (a ++ b) → IsUtf8 b
rest_utf8 a b h k =
    let front = subst IsUtf8 (sym (take-append_seam a b)) h in
    subst IsUtf8 (drop-append_seam a b) (IsUtf8-drop (a ++ b) (length a) k (IsCharBoundary-from_take (a ++ b) (length a) k (omega (arith, length-append a b)) front))
