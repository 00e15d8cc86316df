-- Where bytes stop being UTF-8.
use Rattle.std.proofs.Common.{◌≡◌, ℕ, zero, suc, ◌+◌, ◌<◌, ◌≤◌, inl, inr, Bool, true, false, cond, Option, Some, None, List, [], ◌∷◌, ◌++◌, length, take, drop, refl, sym, ap, ◌∙◌, subst, arith, append_assoc, length-drop, take-append-drop, take_all, slice_index}
use Rattle.std.proofs.lemmas.Bool.Decides.{nat_tests}
use Rattle.std.specs.Prelude.{nat_lt, ◌==◌}
use Rattle.std.specs.Int.{is_in_range}
use Rattle.std.specs.Str.{IsUtf8, is_utf8}
use Rattle.std.specs.Str.Lossy.{valid_len_up_to, utf8_valid_len, utf8_error_len, second_byte_min, second_byte_max, error_len_of_some, error_len_after_two}
use Rattle.std.proofs.lemmas.Str.{IsUtf8-append, IsUtf8-nil, IsUtf8-from_is_utf8, is_utf8-from_IsUtf8}
use Rattle.std.proofs.Math.Seq.{take-add}
use Rattle.std.proofs.lemmas.List.{get_or-drop, take-take}
use Rattle.fx_terms.specs.Utf8.{BeginsUtf8, StopsUtf8, StopOnce, begun, utf8_fault}
use Rattle.fx_terms.proofs.Utf8Shapes.{Follows, order, one_ok, two_ok, three_ok, four_ok, RangedAt, ranges, rest_utf8}

-- ---- what the tests say

in_range : (lo hi c : ℕ) → is_in_range lo hi c ≡ true → (lo ≤ c) × (c ≤ hi)
in_range lo hi c h = (grind (arith, nat_tests), grind (arith, nat_tests))

within : (lo hi c : ℕ) → lo ≤ c → c ≤ hi → is_in_range lo hi c ≡ false → ⊥
within lo hi c l k h = grind (arith, nat_tests)

-- the second byte goes with the first
record Goes (x y : ℕ) : Type 0 where
  pub follows : Follows y
  pub e0 : x ≡ 224 → 160 ≤ y
  pub ed : x ≡ 237 → y < 160
  pub f0 : x ≡ 240 → 144 ≤ y
  pub f4 : x ≡ 244 → y < 144

goes : (x y : ℕ) → is_in_range (second_byte_min x) (second_byte_max x) y ≡ true → Goes x y
goes x y h = record {
  follows = (grind (arith, nat_tests), grind (arith, nat_tests));
  e0 = λ e. grind (arith, nat_tests);
  ed = λ e. grind (arith, nat_tests);
  f0 = λ e. grind (arith, nat_tests);
  f4 = λ e. grind (arith, nat_tests);
}

goes_not : (x y : ℕ) → is_in_range (second_byte_min x) (second_byte_max x) y ≡ false → Goes x y → ⊥
goes_not x y h g =
    let f0 = g.follows.0 in let f1 = g.follows.1 in let a = g.e0 in let b = g.ed in let c = g.f0 in let d = g.f4 in
    grind (arith, nat_tests)

-- ---- some bytes of a character, and what completes it

one_begins : (x : ℕ) → 194 ≤ x → x ≤ 244 → BeginsUtf8 (x ∷ [])
one_begins x h k = elim (order x 224) [
  | inl a ↦ (128 ∷ [], two_ok x 128 h a (omega arith, omega arith))
  | inr a ↦ elim (order x 240) [
    | inl b ↦ elim (order 224 x) [
      | inl c ↦ (128 ∷ 128 ∷ [], three_ok x 128 128 a b (omega arith, omega arith) (λ e. absurd (omega arith)) (λ e. omega arith) (omega arith, omega arith))
      | inr c ↦ (160 ∷ 128 ∷ [], three_ok x 160 128 a b (omega arith, omega arith) (λ e. omega arith) (λ e. absurd (omega arith)) (omega arith, omega arith))
    ]
    | inr b ↦ elim (order 240 x) [
      | inl c ↦ (128 ∷ 128 ∷ 128 ∷ [], four_ok x 128 128 128 b k (omega arith, omega arith) (λ e. absurd (omega arith)) (λ e. omega arith) (omega arith, omega arith) (omega arith, omega arith))
      | inr c ↦ (144 ∷ 128 ∷ 128 ∷ [], four_ok x 144 128 128 b k (omega arith, omega arith) (λ e. omega arith) (λ e. absurd (omega arith)) (omega arith, omega arith) (omega arith, omega arith))
    ]
  ]
]

two_begin : (x y : ℕ) → 224 ≤ x → x ≤ 244 → Goes x y → BeginsUtf8 (x ∷ y ∷ [])
two_begin x y h k g = elim (order x 240) [
  | inl a ↦ (128 ∷ [], three_ok x y 128 h a g.follows g.e0 g.ed (omega arith, omega arith))
  | inr a ↦ (128 ∷ 128 ∷ [], four_ok x y 128 128 a k g.follows g.f0 g.f4 (omega arith, omega arith) (omega arith, omega arith))
]

three_begin : (x y z : ℕ) → 240 ≤ x → x ≤ 244 → Goes x y → Follows z → BeginsUtf8 (x ∷ y ∷ z ∷ [])
three_begin x y z h k g f = (128 ∷ [], four_ok x y z 128 h k g.follows g.f0 g.f4 f (omega arith, omega arith))

-- ---- bytes that begin no character, whatever follows

refused : (l : List ℕ) → 0 < length l → (RangedAt l → ⊥) → IsUtf8 l → ⊥
refused l some h u = h (ranges l some u)

first_refused : (x : ℕ) (w : List ℕ) → 128 ≤ x → is_in_range 0xC2 0xF4 x ≡ false → IsUtf8 (x ∷ w) → ⊥
first_refused x w h k u = refused (x ∷ w) (omega arith) (λ r.
    elim (order 244 x) [
      | inl a ↦ let f = (r.fourth (omega arith)).2 in omega (arith, f.0, f.1)
      | inr a ↦ within 194 244 x (r.second h).0 a k
    ]) u

second_refused : (x y : ℕ) (w : List ℕ) → 194 ≤ x → x ≤ 244 → (Goes x y → ⊥) → IsUtf8 (x ∷ y ∷ w) → ⊥
second_refused x y w h k g u = refused (x ∷ y ∷ w) (omega arith) (λ r.
    let f = (r.second (omega arith)).2 in
    g (record {
      follows = f;
      e0 = λ e. let t = (r.in_three (omega arith) (omega arith)).0 in omega arith;
      ed = λ e. elim ((r.in_three (omega arith) (omega arith)).1) [ inl a ↦ omega arith | inr a ↦ omega (arith, f.1) ];
      f0 = λ e. let t = (r.fourth (omega arith)).2.0 in omega arith;
      f4 = λ e. let t = (r.fourth (omega arith)).2.1 in omega arith;
    })) u

third_refused : (x y z : ℕ) (w : List ℕ) → 224 ≤ x → (Follows z → ⊥) → IsUtf8 (x ∷ y ∷ z ∷ w) → ⊥
third_refused x y z w h g u = refused (x ∷ y ∷ z ∷ w) (omega arith) (λ r. g (r.third h).1) u

fourth_refused : (x y z v : ℕ) (w : List ℕ) → 240 ≤ x → (Follows v → ⊥) → IsUtf8 (x ∷ y ∷ z ∷ v ∷ w) → ⊥
fourth_refused x y z v w h g u = refused (x ∷ y ∷ z ∷ v ∷ w) (omega arith) (λ r. g (r.fourth h).1) u

-- ---- bytes of which no front is UTF-8

record Stuck (bs : List ℕ) (k : ℕ) : Type 0 where
  pub within : k ≤ length bs
  pub before : BeginsUtf8 (take k bs)
  pub there : k < length bs → BeginsUtf8 (take (k + 1) bs) → ⊥

abbrev NoFront : List ℕ → Type 0
NoFront bs = (m : ℕ) → 0 < m → IsUtf8 (take m bs) → ⊥

no_follow : (z : ℕ) → is_in_range 128 191 z ≡ false → Follows z → ⊥
no_follow z h f = within 128 191 z f.0 (omega (arith, f.1)) h

follow : (z : ℕ) → is_in_range 128 191 z ≡ true → Follows z
follow z h = let t = in_range 128 191 z h in (t.0, omega (arith, t.1))

-- the first byte is none of a character's first
at_first : (x : ℕ) (bs : List ℕ) → NoFront (x ∷ bs) → is_in_range 0xC2 0xF4 x ≡ false → Stuck (x ∷ bs) 0
at_first x bs none h = record {
  within = omega arith;
  before = ([], IsUtf8-nil);
  there = λ l b. first_refused x b.0 (elim (order x 128) [ inl a ↦ absurd (none 1 (omega arith) (one_ok x a)) | inr a ↦ a ]) h b.1;
}

-- three bytes or more
with_two : (x y : ℕ) (bs : List ℕ) → NoFront (x ∷ y ∷ bs) → 194 ≤ x → x ≤ 244 → Goes x y → 224 ≤ x
with_two x y bs none h k g = elim (order x 224) [ inl a ↦ absurd (none 2 (omega arith) (two_ok x y h a g.follows)) | inr a ↦ a ]

with_three : (x y z : ℕ) (bs : List ℕ) → NoFront (x ∷ y ∷ z ∷ bs) → 224 ≤ x → Goes x y → Follows z → 240 ≤ x
with_three x y z bs none h g f = elim (order x 240) [ inl a ↦ absurd (none 3 (omega arith) (three_ok x y z h a g.follows g.e0 g.ed f)) | inr a ↦ a ]

with_four : (x y z v : ℕ) (bs : List ℕ) → NoFront (x ∷ y ∷ z ∷ v ∷ bs) → 240 ≤ x → x ≤ 244 → Goes x y → Follows z → Follows v → ⊥
with_four x y z v bs none h k g f j = none 4 (omega arith) (four_ok x y z v h k g.follows g.f0 g.f4 f j)

after_third : (x y z : ℕ) (bs : List ℕ) → NoFront (x ∷ y ∷ z ∷ bs) → 224 ≤ x → x ≤ 244 → Goes x y → Follows z → Stuck (x ∷ y ∷ z ∷ bs) 3
after_third x y z [] none h k g f = record {
  within = omega arith;
  before = three_begin x y z (with_three x y z [] none h g f) k g f;
  there = λ l b. absurd (omega arith);
}
after_third x y z (v ∷ bs) none h k g f =
    let most = with_three x y z (v ∷ bs) none h g f in
    record {
      within = omega arith;
      before = three_begin x y z most k g f;
      there = λ l b. fourth_refused x y z v b.0 most (with_four x y z v bs none most k g f) b.1;
    }

after_second : (x y : ℕ) (bs : List ℕ) → NoFront (x ∷ y ∷ bs) → 224 ≤ x → x ≤ 244 → Goes x y → ((z : ℕ) (r : List ℕ) → bs ≡ z ∷ r → Follows z → ⊥) → Stuck (x ∷ y ∷ bs) 2
after_second x y [] none h k g other = record {
  within = omega arith;
  before = two_begin x y h k g;
  there = λ l b. absurd (omega arith);
}
after_second x y (z ∷ bs) none h k g other = record {
  within = omega arith;
  before = two_begin x y h k g;
  there = λ l b. third_refused x y z b.0 h (other z bs refl) b.1;
}

-- ---- the place that is computed

utf8_error_len_some : (bs : List ℕ) → 0 < length bs → utf8_error_len bs ≡ error_len_of_some bs
unfolding utf8_error_len
utf8_error_len_some bs some = rw (no_zero (length bs) some) refl
  where
    no_zero : (n : ℕ) → 0 < n → (n == 0) ≡ false
    no_zero n h = grind (arith, nat_tests)

begun_some : (x n : ℕ) (bs : List ℕ) → is_in_range 0xC2 0xF4 x ≡ true → begun x bs (Some n) ≡ n
begun_some x n bs h = rw h refl

begun_none : (x n : ℕ) (bs : List ℕ) → is_in_range 0xC2 0xF4 x ≡ false → begun x bs (Some n) ≡ 0
begun_none x n bs h = rw h refl

no_less : (n m : ℕ) → m ≤ n → nat_lt n m ≡ false
no_less n m h = grind (arith, nat_tests)

three_test : (x y z : ℕ) (bs : List ℕ) (v : Bool) → is_in_range 0x80 0xBF z ≡ v → is_in_range 0xC2 0xF4 x ≡ true → NoFront (x ∷ y ∷ z ∷ bs) → 224 ≤ x → x ≤ 244 → Goes x y →
    Stuck (x ∷ y ∷ z ∷ bs) (begun x (x ∷ y ∷ z ∷ bs) (cond v (cond (nat_lt (length (x ∷ y ∷ z ∷ bs)) 4) None (Some 3)) (Some 2)))
three_test x y z bs false e r none h k g = subst (Stuck (x ∷ y ∷ z ∷ bs)) (sym (begun_some x 2 (x ∷ y ∷ z ∷ bs) r)) (after_second x y (z ∷ bs) none h k g (λ u s i. subst (λ (w : ℕ). Follows w → ⊥) (head_is i) (no_follow z e)))
  where
    head_is : {u : ℕ} {s : List ℕ} → z ∷ bs ≡ u ∷ s → z ≡ u
    head_is i = cc
three_test x y z [] true e r none h k g = after_third x y z [] none h k g (follow z e)
three_test x y z (w ∷ bs) true e r none h k g =
    rw (no_less (length (x ∷ y ∷ z ∷ w ∷ bs)) 4 (omega arith))
    (subst (Stuck (x ∷ y ∷ z ∷ w ∷ bs)) (sym (begun_some x 3 (x ∷ y ∷ z ∷ w ∷ bs) r)) (after_third x y z (w ∷ bs) none h k g (follow z e)))

two_test : (x y : ℕ) (bs : List ℕ) → is_in_range 0xC2 0xF4 x ≡ true → NoFront (x ∷ y ∷ bs) → 224 ≤ x → x ≤ 244 → Goes x y → Stuck (x ∷ y ∷ bs) (begun x (x ∷ y ∷ bs) (error_len_after_two (x ∷ y ∷ bs)))
two_test x y [] r none h k g = after_second x y [] none h k g (λ z s i. absurd (cc))
two_test x y (z ∷ bs) r none h k g = rw (no_less (length (x ∷ y ∷ z ∷ bs)) 3 (omega arith)) (three_test x y z bs (is_in_range 0x80 0xBF z) refl r none h k g)

one_test : (x y : ℕ) (bs : List ℕ) (v w : Bool) → is_in_range 0xC2 0xF4 x ≡ v → is_in_range (second_byte_min x) (second_byte_max x) y ≡ w → NoFront (x ∷ y ∷ bs) →
    Stuck (x ∷ y ∷ bs) (begun x (x ∷ y ∷ bs) (cond v (cond w (error_len_after_two (x ∷ y ∷ bs)) (Some 1)) (Some 1)))
one_test x y bs false w e f none = subst (Stuck (x ∷ y ∷ bs)) (sym (begun_none x 1 (x ∷ y ∷ bs) e)) (at_first x (y ∷ bs) none e)
one_test x y bs true false e f none =
    let r = in_range 194 244 x e in
    subst (Stuck (x ∷ y ∷ bs)) (sym (begun_some x 1 (x ∷ y ∷ bs) e)) (record {
      within = omega arith;
      before = one_begins x r.0 r.1;
      there = λ l b. second_refused x y b.0 r.0 r.1 (goes_not x y f) b.1;
    })
one_test x y bs true true e f none =
    let r = in_range 194 244 x e in
    let g = goes x y f in
    two_test x y bs e none (with_two x y bs none r.0 r.1 g) r.1 g

alone_test : (x : ℕ) (v : Bool) → is_in_range 0xC2 0xF4 x ≡ v → NoFront (x ∷ []) → Stuck (x ∷ []) (begun x (x ∷ []) (cond v None (Some 1)))
alone_test x false e none = subst (Stuck (x ∷ [])) (sym (begun_none x 1 (x ∷ []) e)) (at_first x [] none e)
alone_test x true e none = let r = in_range 194 244 x e in record { within = omega arith; before = one_begins x r.0 r.1; there = λ l b. absurd (omega arith) }

stuck : (bs : List ℕ) → 0 < length bs → NoFront bs → Stuck bs (begun (slice_index bs 0) bs (error_len_of_some bs))
stuck [] some none = absurd (omega arith)
stuck (x ∷ []) some none = alone_test x (is_in_range 0xC2 0xF4 x) refl none
stuck (x ∷ y ∷ bs) some none =
    rw (no_less (length (x ∷ y ∷ bs)) 2 (omega arith)) (one_test x y bs (is_in_range 0xC2 0xF4 x) (is_in_range (second_byte_min x) (second_byte_max x) y) refl refl none)

-- ---- behind the longest front that is UTF-8

longest_front : (bs : List ℕ) (m : ℕ) → IsUtf8 (take (valid_len_up_to bs m) bs) × ((k : ℕ) → valid_len_up_to bs m < k → k ≤ m → IsUtf8 (take k bs) → ⊥)
longest_front bs zero = (IsUtf8-nil, λ k above within u. omega arith)
longest_front bs (suc m) = by_test (is_utf8 (take (suc m) bs)) refl (longest_front bs m)
  where
    Longest : ℕ → Type 0
    Longest n = IsUtf8 (take n bs) × ((k : ℕ) → n < k → k ≤ suc m → IsUtf8 (take k bs) → ⊥)

    by_test : (v : Bool) → is_utf8 (take (suc m) bs) ≡ v → IsUtf8 (take (valid_len_up_to bs m) bs) × ((k : ℕ) → valid_len_up_to bs m < k → k ≤ m → IsUtf8 (take k bs) → ⊥) → Longest (cond v (suc m) (valid_len_up_to bs m))
    by_test true e rest = (IsUtf8-from_is_utf8 (take (suc m) bs) e, λ k above within u. omega arith)
    by_test false e rest = (
      rest.0,
      λ k above within u. elim (order m k) [
        | inl top ↦ let same : k ≡ suc m = omega arith in (let yes = is_utf8-from_IsUtf8 (take (suc m) bs) (subst (λ (n : ℕ). IsUtf8 (take n bs)) same u) in cc)
        | inr low ↦ rest.1 k above low u
      ],
    )

faulty_from : (bytes : List ℕ) → (IsUtf8 bytes → ⊥) → (utf8_valid_len bytes < length bytes) × IsUtf8 (take (utf8_valid_len bytes) bytes) × NoFront (drop (utf8_valid_len bytes) bytes)
unfolding utf8_valid_len
faulty_from bytes faulty =
    let n = valid_len_up_to bytes (length bytes) in
    let front = longest_front bytes (length bytes) in
    let short : n < length bytes = elim (order n (length bytes)) [ inl a ↦ a | inr a ↦ absurd (faulty (subst IsUtf8 (take_all n bytes a) front.0)) ] in (
      short,
      front.0,
      λ m some u.
          let whole : IsUtf8 (take (n + m) bytes) = subst IsUtf8 (sym (take-add n m bytes)) (IsUtf8-append (take n bytes) (take m (drop n bytes)) front.0 u) in
          elim (order (length bytes) (n + m)) [
            | inl past ↦ faulty (subst IsUtf8 (take_all (n + m) bytes (omega arith)) whole)
            | inr within ↦ front.1 (n + m) (omega arith) within whole
          ],
    )

pub stops_there : (bytes : List ℕ) → (IsUtf8 bytes → ⊥) → StopsUtf8 bytes (utf8_fault bytes)
stops_there bytes faulty =
    let n = utf8_valid_len bytes in
    let f = faulty_from bytes faulty in
    let rest = drop n bytes in
    let some : 0 < length rest = omega (arith, f.0, length-drop n bytes) in
    let first : slice_index rest 0 ≡ slice_index bytes n = get_or-drop n bytes 0 0 ∙ ap (slice_index bytes) (omega arith) in
    let place = begun (slice_index bytes n) rest (utf8_error_len rest) in
    let s : Stuck rest place = subst (λ (k : ℕ). Stuck rest k) (ap (λ (o : Option ℕ). begun (slice_index rest 0) rest o) (sym (utf8_error_len_some rest some)) ∙ ap (λ (x : ℕ). begun x rest (utf8_error_len rest)) first) (stuck rest some f.2) in
    record {
      faulty = faulty;
      within = omega (arith, s.within, f.0, length-drop n bytes);
      before = (s.before.0, subst IsUtf8 (sym (ap (λ x. x ++ s.before.0) (take-add n place bytes) ∙ append_assoc (take n bytes) (take place rest) s.before.0)) (IsUtf8-append (take n bytes) (take place rest ++ s.before.0) f.1 s.before.1));
      there = λ l b.
          let more : n + place + 1 ≡ n + (place + 1) = omega arith in
          let split : take (n + place + 1) bytes ++ b.0 ≡ take n bytes ++ (take (place + 1) rest ++ b.0) = ap (λ k. take k bytes ++ b.0) more ∙ ap (λ x. x ++ b.0) (take-add n (place + 1) bytes) ∙ append_assoc (take n bytes) (take (place + 1) rest) b.0 in
          let u : IsUtf8 (take n bytes ++ (take (place + 1) rest ++ b.0)) = subst IsUtf8 split b.1 in
          s.there (omega (arith, l, length-drop n bytes)) (b.0, rest_utf8 (take n bytes) (take (place + 1) rest ++ b.0) f.1 u);
    }

-- ---- and nowhere else

one_place : (bytes : List ℕ) (m n : ℕ) → StopsUtf8 bytes m → StopsUtf8 bytes n → m < n → ⊥
one_place bytes m n h k l =
    let within = k.within in
    let parts : take n bytes ≡ take (m + 1) bytes ++ drop (m + 1) (take n bytes) = sym (take-append-drop (m + 1) (take n bytes)) ∙ ap (λ x. x ++ drop (m + 1) (take n bytes)) (take-take (m + 1) n bytes (omega arith)) in
    let w = k.before.0 in
    h.there (omega arith) (drop (m + 1) (take n bytes) ++ w, subst IsUtf8 (ap (λ x. x ++ w) parts ∙ append_assoc (take (m + 1) bytes) (drop (m + 1) (take n bytes)) w) k.before.1)

pub same_place : (bytes : List ℕ) (m n : ℕ) → StopsUtf8 bytes m → StopsUtf8 bytes n → m ≡ n
same_place bytes m n h k = elim (order m n) [
  | inl a ↦ absurd (one_place bytes m n h k a)
  | inr a ↦ elim (order n m) [ inl b ↦ absurd (one_place bytes n m k h b) | inr b ↦ omega arith ]
]

pub stop_once : StopOnce
stop_once = record { somewhere = λ bytes faulty. (utf8_fault bytes, stops_there bytes faulty); once = same_place }
