-- Numbers of a printed query read as their tokens.
use Rattle.std.proofs.Common.{◌≡◌, ℕ, ◌+◌, ◌*◌, ◌-◌, ◌/◌, ◌%◌, ◌^◌, ◌<◌, ◌≤◌, Bool, true, false, cond, List, [], ◌∷◌, ◌++◌, length, Option, Some, None, Ok, refl, sym, ap, ◌∙◌, subst, arith, length-append, inl, inr, nat_le}
use Rattle.std.specs.List.{list_all}
use Rattle.std.specs.Str.{chars}
use Rattle.std.specs.Fmt.{decimal}
use Rattle.std.proofs.lemmas.Bool.{and_from, and_parts, leb-true, le-leb, cases_eq}
use Rattle.std.proofs.lemmas.Str.{IsUtf8-from_ascii, chars-IsAscii}
use Rattle.std.proofs.lemmas.Fmt.{decimal_by_steps, IsAscii-decimal}
use Rattle.fx_tokens.specs.Classes as class
use Rattle.fx_tokens.specs.Reads.{BeginsToken}
use Rattle.fx_tokens.specs.Scan as scan
use Rattle.fx_tokens.specs.declared.TokenKind.{TokenKind}
use Rattle.fx_tokens.specs.declared.TokenKind.TheVariants as kind
use Rattle.fx_grammar.specs.Grammar.{number_from, number_of}
use Rattle.fx_grammar.specs.declared.kinds.Token.TheVariants as token
use Rattle.fx_spelling.proofs.Pieces.{Reading}
use Rattle.fx_spelling.proofs.Words.{Ends, ends_by, chars_end, skip_ones, takes_one}

-- ---- the digits of a number

number_from_last : (v d : ℕ) (digits : List ℕ) → number_from v (digits ++ d ∷ []) ≡ number_from v digits * 10 + (d - 48)
number_from_last v d [] = refl
number_from_last v d (e ∷ digits) = number_from_last (v * 10 + (e - 48)) d digits

digit_is : (d : ℕ) → d < 10 → class.is_digit (48 + d) ≡ true
digit_is d h = and_from (nat_le 48 (48 + d)) (nat_le (48 + d) 57) (le-leb 48 (48 + d) (omega arith)) (le-leb (48 + d) 57 (omega (arith, h)))

record Digits (n : ℕ) (digits : List ℕ) : Type 0 where
  all : list_all class.is_digit digits ≡ true
  some : 0 < length digits
  value : number_from 0 digits ≡ n

one_digit : (n : ℕ) → n < 10 → Digits n ((48 + n) ∷ [])
one_digit n h = record { all = and_from (class.is_digit (48 + n)) true (digit_is n h) refl; some = omega arith; value = omega arith }

all_last : (digits : List ℕ) (d : ℕ) → list_all class.is_digit digits ≡ true → class.is_digit d ≡ true → list_all class.is_digit (digits ++ d ∷ []) ≡ true
all_last [] d h g = and_from (class.is_digit d) true g refl
all_last (e ∷ digits) d h g = let t = and_parts (class.is_digit e) (list_all class.is_digit digits) h in and_from (class.is_digit e) (list_all class.is_digit (digits ++ d ∷ [])) t.0 (all_last digits d t.1 g)

more_digits : (n : ℕ) (digits : List ℕ) → 10 ≤ n → Digits (n / 10) digits → Digits n (digits ++ (48 + n % 10) ∷ [])
more_digits n digits h d = record {
  all = all_last digits (48 + n % 10) d.all (digit_is (n % 10) (omega arith));
  some = omega (arith, length-append digits ((48 + n % 10) ∷ []));
  value = number_from_last 0 (48 + n % 10) digits ∙ omega (arith, d.value);
}

digits_of : (n : ℕ) → n < 2 ^ 64 → Digits n (decimal n)
digits_of = decimal_by_steps Digits one_digit more_digits

-- the number that its digits say
pub number_said : (n : ℕ) → n < 2 ^ 64 → number_of (token.Integer (decimal n)) ≡ Ok n
number_said n h = rw ((digits_of n h).value, le-leb n 18446744073709551615 (omega (arith, h))) refl

-- ---- what is read of them

digit_by : (P : ℕ → Type 0) → P 48 → P 49 → P 50 → P 51 → P 52 → P 53 → P 54 → P 55 → P 56 → P 57 → (c : ℕ) → class.is_digit c ≡ true → P c
digit_by P p0 p1 p2 p3 p4 p5 p6 p7 p8 p9 c h =
    let t = and_parts (nat_le 48 c) (nat_le c 57) h in
    let low : 48 ≤ c = leb-true 48 c t.0 in
    let high : c ≤ 57 = leb-true c 57 t.1 in
    elim (cases_eq c 48) [
      | inl e ↦ subst P (sym e) p0
      | inr n0 ↦
          elim (cases_eq c 49) [
            | inl e ↦ subst P (sym e) p1
            | inr n1 ↦
                elim (cases_eq c 50) [
                  | inl e ↦ subst P (sym e) p2
                  | inr n2 ↦
                      elim (cases_eq c 51) [
                        | inl e ↦ subst P (sym e) p3
                        | inr n3 ↦
                            elim (cases_eq c 52) [
                              | inl e ↦ subst P (sym e) p4
                              | inr n4 ↦
                                  elim (cases_eq c 53) [
                                    | inl e ↦ subst P (sym e) p5
                                    | inr n5 ↦
                                        elim (cases_eq c 54) [
                                          | inl e ↦ subst P (sym e) p6
                                          | inr n6 ↦
                                              elim (cases_eq c 55) [
                                                | inl e ↦ subst P (sym e) p7
                                                | inr n7 ↦
                                                    elim (cases_eq c 56) [
                                                      | inl e ↦ subst P (sym e) p8
                                                      | inr n8 ↦
                                                          let last : c ≡ 57 = omega arith in subst P (sym last) p9
                                                    ]
                                              ]
                                        ]
                                  ]
                            ]
                      ]
                ]
          ]
    ]

abbrev ReadsAt : ℕ → Type 0
ReadsAt c = (text rest : List ℕ) → scan.skip (scan.one class.is_digit) text ≡ rest → scan.decimal (c ∷ text) ≡ None → scan.longest (c ∷ text) ≡ Some (kind.Integer, rest)

-- what the other kinds leave of a text that begins with a digit
abbrev others : Option (List ℕ) → Option (List ℕ) → Option (TokenKind × List ℕ)
others o d = scan.better (scan.better (scan.better (scan.better (scan.better (scan.better None kind.Integer o) kind.Signed None) kind.Decimal d) kind.Text None) kind.Word None) kind.Mark None

reads_at : (c : ℕ) → class.is_digit c ≡ true → ReadsAt c
unfolding scan.longest scan.early scan.iri scan.iri_part scan.prefix_name scan.colon_local scan.long_prefix scan.variable scan.blank scan.tag scan.signed scan.short scan.long scan.three scan.string scan.word scan.pair scan.mark scan.one
reads_at = digit_by ReadsAt
    (λ text rest i d. ap (λ (v : List ℕ). others (Some v) (scan.decimal (48 ∷ text))) i ∙ ap (others (Some rest)) d)
    (λ text rest i d. ap (λ (v : List ℕ). others (Some v) (scan.decimal (49 ∷ text))) i ∙ ap (others (Some rest)) d)
    (λ text rest i d. ap (λ (v : List ℕ). others (Some v) (scan.decimal (50 ∷ text))) i ∙ ap (others (Some rest)) d)
    (λ text rest i d. ap (λ (v : List ℕ). others (Some v) (scan.decimal (51 ∷ text))) i ∙ ap (others (Some rest)) d)
    (λ text rest i d. ap (λ (v : List ℕ). others (Some v) (scan.decimal (52 ∷ text))) i ∙ ap (others (Some rest)) d)
    (λ text rest i d. ap (λ (v : List ℕ). others (Some v) (scan.decimal (53 ∷ text))) i ∙ ap (others (Some rest)) d)
    (λ text rest i d. ap (λ (v : List ℕ). others (Some v) (scan.decimal (54 ∷ text))) i ∙ ap (others (Some rest)) d)
    (λ text rest i d. ap (λ (v : List ℕ). others (Some v) (scan.decimal (55 ∷ text))) i ∙ ap (others (Some rest)) d)
    (λ text rest i d. ap (λ (v : List ℕ). others (Some v) (scan.decimal (56 ∷ text))) i ∙ ap (others (Some rest)) d)
    (λ text rest i d. ap (λ (v : List ℕ). others (Some v) (scan.decimal (57 ∷ text))) i ∙ ap (others (Some rest)) d)

pointed_none : (text rest : List ℕ) → scan.skip (scan.one class.is_digit) text ≡ rest → Ends rest → scan.pointed text ≡ None
unfolding scan.pointed scan.one
pointed_none text rest i e =
    ap (λ (v : List ℕ). scan.and_then (scan.is 46 v) (λ r. scan.and_then (scan.integer r) (λ r. Some (scan.or_here (scan.exponent r) r)))) i
    ∙ ends_by (λ r. scan.and_then (scan.is 46 r) (λ r. scan.and_then (scan.integer r) (λ r. Some (scan.or_here (scan.exponent r) r))) ≡ None) refl (λ r. refl) rest e

no_power : (rest : List ℕ) → Ends rest → scan.longer (scan.exponent rest) (scan.dot_exponent rest) ≡ None
unfolding scan.exponent scan.dot_exponent scan.one
no_power rest e = ends_by (λ r. scan.longer (scan.exponent r) (scan.dot_exponent r) ≡ None) refl (λ r. refl) rest e

powered_none : (c : ℕ) (text rest : List ℕ) → class.is_digit c ≡ true → scan.skip (scan.one class.is_digit) text ≡ rest → Ends rest → scan.powered (c ∷ text) ≡ None
unfolding scan.powered
powered_none c text rest h i e =
    ap (λ (v : Option (List ℕ)). scan.and_then (scan.and_then v (λ r. Some (scan.skip (scan.one class.is_digit) r))) (λ r. scan.longer (scan.exponent r) (scan.dot_exponent r))) (takes_one class.is_digit c text h)
    ∙ ap (λ (v : List ℕ). scan.longer (scan.exponent v) (scan.dot_exponent v)) i ∙ no_power rest e

no_sign : (c : ℕ) (text : List ℕ) → class.is_digit c ≡ true → scan.one class.is_sign (c ∷ text) ≡ None
unfolding scan.one
no_sign c text h = ap (λ (b : Bool). cond b (Some text) None) (digit_by (λ d. class.is_sign d ≡ false) refl refl refl refl refl refl refl refl refl refl c h)

decimal_none : (c : ℕ) (text rest : List ℕ) → class.is_digit c ≡ true → scan.skip (scan.one class.is_digit) (c ∷ text) ≡ rest → scan.skip (scan.one class.is_digit) text ≡ rest → Ends rest → scan.decimal (c ∷ text) ≡ None
unfolding scan.decimal scan.unsigned
decimal_none c text rest h j i e =
    ap (λ (v : Option (List ℕ)). scan.longer (scan.longer v (scan.powered (c ∷ text))) (scan.and_then (scan.one class.is_sign (c ∷ text)) scan.unsigned)) (pointed_none (c ∷ text) rest j e)
    ∙ ap (λ (v : Option (List ℕ)). scan.longer (scan.longer None v) (scan.and_then (scan.one class.is_sign (c ∷ text)) scan.unsigned)) (powered_none c text rest h i e)
    ∙ ap (λ (v : Option (List ℕ)). scan.longer None (scan.and_then v scan.unsigned)) (no_sign c text h)

no_digit : (rest : List ℕ) → Ends rest → scan.one class.is_digit rest ≡ None
unfolding scan.one
no_digit rest e = ends_by (λ r. scan.one class.is_digit r ≡ None) refl (λ r. refl) rest e

number_reads : (digits rest : List ℕ) → list_all class.is_digit digits ≡ true → 0 < length digits → Ends rest → scan.longest (digits ++ rest) ≡ Some (kind.Integer, rest)
number_reads [] rest h n e = absurd (omega (arith, n))
number_reads (c ∷ digits) rest h n e =
    let t = and_parts (class.is_digit c) (list_all class.is_digit digits) h in
    let i = skip_ones class.is_digit digits rest t.1 (no_digit rest e) in
    reads_at c t.0 (digits ++ rest) rest i (decimal_none c (digits ++ rest) rest t.0 (skip_ones class.is_digit (c ∷ digits) rest h (no_digit rest e)) i e)

number_begins : (digits rest : List ℕ) → list_all class.is_digit digits ≡ true → 0 < length digits → BeginsToken (digits ++ rest)
number_begins [] rest h n = absurd (omega (arith, n))
number_begins (c ∷ digits) rest h n = digit_by (λ d. BeginsToken (d ∷ (digits ++ rest))) refl refl refl refl refl refl refl refl refl refl c (and_parts (class.is_digit c) (list_all class.is_digit digits) h).0

pub number_reading : (n : ℕ) (rest : List ℕ) → n < 2 ^ 64 → Ends rest → Reading (decimal n) rest (token.Integer (decimal n))
number_reading n rest h e =
    let a = IsAscii-decimal n h in
    let d = digits_of n h in
    let same : decimal n ≡ chars (decimal n) = sym (chars-IsAscii (decimal n) a) in
    record {
      utf8 = IsUtf8-from_ascii (decimal n) a;
      begins = subst (λ (v : List ℕ). BeginsToken (v ++ chars rest)) same (number_begins (decimal n) (chars rest) d.all d.some);
      kind = kind.Integer;
      reads = subst (λ (v : List ℕ). scan.longest (v ++ chars rest) ≡ Some (kind.Integer, chars rest)) same (number_reads (decimal n) (chars rest) d.all d.some (chars_end rest e));
      says = refl;
    }
