-- The range of numbers, and what is read back of those that were made.
use Rattle.std.proofs.Common.{◌≡◌, ◌∙◌, sym, ap, subst, refl, ℕ, suc, ◌<◌, ◌^◌, Bool, true, false, not, nat_eq, ◌&&◌, if◌then◌else◌, List, [], ◌∷◌, length, drop, cond, Option, Some, None, option_map, option_and_then, arith}
use Rattle.std.specs.Prelude.{ℤ, pos, negsuc, neg_ℤ, nat_le, nat_lt, ◌==◌}
use Rattle.std.specs.Char.{digit_value}
use Rattle.std.specs.Fmt.{decimal, signed_decimal}
use Rattle.std.specs.List.{list_all}
use Rattle.std.specs.Str.Parse.{AllDigits, IsNumeral, digits_value, signed_digits_value, starts_with_minus, without_leading_sign}
use Rattle.std.proofs.lemmas.Bool.{and_from, ne_eqb}
use Rattle.std.proofs.lemmas.Bool.Decides.{nat_tests}
use Rattle.std.proofs.lemmas.Fmt.{decimal_is_IsNumeral}
use Rattle.fx_terms.specs.Iris.{is_digit}
use Rattle.fx_terms.specs.Datatypes.{xsd_integer}
use Rattle.fx_terms.specs.declared.terms.Term.{Term}
use Rattle.fx_terms.specs.declared.terms.Term.TheVariants as term
use Rattle.fx_algebra.specs.Solutions.{Bindings}
use Rattle.fx_algebra.specs.Values.{boolean, integer, integer_by, integer_in, value}
use Rattle.fx_algebra.specs.Worths.{are_digits, boolean_worth, if_in_range, integer_type, integer_worth, is_good_form, is_in_range, is_integer_form, kind_of, read_boolean, read_integer, worth_by, worth_of}
use Rattle.fx_algebra.specs.declared.expressions.Expr.{Expr}
use Rattle.fx_algebra.specs.declared.worths.IntegerType.{IntegerType}
use Rattle.fx_algebra.specs.declared.worths.IntegerType.TheVariants as integers
use Rattle.fx_algebra.specs.declared.worths.Kind.{Kind}
use Rattle.fx_algebra.specs.declared.worths.Kind.TheVariants as kind
use Rattle.fx_algebra.specs.declared.worths.Worth.{Worth}
use Rattle.fx_algebra.specs.declared.worths.Worth.TheVariants as worth
use Rattle.fx_laws_operators.specs.Operators.{IsInteger, IsNoInteger, Made, fits, number}
use Rattle.fx_laws_operators.proofs.LogicLemmas.{truth_back}

-- ---- the range

below : (n m k : ℕ) → k ≡ suc m → nat_lt n k ≡ nat_le n m
below n m k e = grind (arith, nat_tests)

and_itself : (b : Bool) → b ≡ (b && true)
and_itself true = refl
and_itself false = refl

pub fits_is : (z : ℤ) → is_in_range z ≡ fits z
unfolding is_in_range
fits_is (pos n) = below n 9_223_372_036_854_775_807 (2 ^ 63) refl
fits_is (negsuc n) = below n 9_223_372_036_854_775_807 (2 ^ 63) refl ∙ and_itself (nat_le n 9_223_372_036_854_775_807)

-- a number as a literal, where it is in range
pub number_is : (z : ℤ) → option_map integer (if_in_range z) ≡ number z
number_is z = by (is_in_range z) ∙ ap (λ (b : Bool). if b then Some (integer z) else None) (fits_is z)
  where
    by : (b : Bool) → option_map integer (if b then Some z else None) ≡ (if b then Some (integer z) else None)
    by true = refl
    by false = refl

-- ---- integers that are parts

pub integer_of : (s : Bindings) (e : Expr) (z : ℤ) → IsInteger s e z → integer_in (value e s) ≡ Some z
unfolding integer_in
integer_of s e z h = ap (option_and_then (λ t. integer_by (worth_of t))) h.1 ∙ ap integer_by h.2

pub no_integer_of : (s : Bindings) (e : Expr) → IsNoInteger s e → integer_in (value e s) ≡ None
unfolding integer_in
no_integer_of s e h = by (value e s) refl
  where
    worths : (t : Term) → value e s ≡ Some t → (w : Worth) → worth_of t ≡ w → integer_by w ≡ None
    worths t f (worth.Integer z) g = absurd (h z (t, f, g))
    worths t f (worth.Boolean b) g = refl
    worths t f worth.Text g = refl
    worths t f worth.Opaque g = refl

    by : (o : Option Term) → value e s ≡ o → option_and_then (λ t. integer_by (worth_of t)) o ≡ None
    by None f = refl
    by (Some t) f = worths t f (worth_of t) refl

-- ---- digits

digit_so : (c : ℕ) → digit_value c < 10 → is_digit c ≡ true
digit_so c h = grind arith

digits_so : (ds : List ℕ) → AllDigits 10 ds → list_all is_digit ds ≡ true
digits_so [] h = refl
digits_so (c ∷ cs) h = rw (digit_so c h.0) (digits_so cs h.1)

filled : (c : ℕ) (cs : List ℕ) → not (nat_eq (length (c ∷ cs)) 0) ≡ true
filled c cs = ap not (ne_eqb (length (c ∷ cs)) 0 (λ e. omega (arith, e)))

numeral_so : (ds : List ℕ) → IsNumeral 10 ds → are_digits ds ≡ true
numeral_so [] h = absurd (omega (arith, h.0))
numeral_so (c ∷ cs) h = and_from (not (nat_eq (length (c ∷ cs)) 0)) (list_all is_digit (c ∷ cs)) (filled c cs) (digits_so (c ∷ cs) h.1)

no_dash : (c : ℕ) → digit_value c < 10 → (c == 45) ≡ false
no_dash c h = by (c == 45) refl
  where
    same : (c == 45) ≡ true → c ≡ 45
    same e = grind (arith, nat_tests)

    by : (b : Bool) → (c == 45) ≡ b → b ≡ false
    by true e = let k : digit_value 45 < 10 = subst (λ (v : ℕ). digit_value v < 10) (same e) h in absurd (omega (arith, k))
    by false e = refl

no_plus : (c : ℕ) → digit_value c < 10 → (c == 43) ≡ false
no_plus c h = by (c == 43) refl
  where
    same : (c == 43) ≡ true → c ≡ 43
    same e = grind (arith, nat_tests)

    by : (b : Bool) → (c == 43) ≡ b → b ≡ false
    by true e = let k : digit_value 43 < 10 = subst (λ (v : ℕ). digit_value v < 10) (same e) h in absurd (omega (arith, k))
    by false e = refl

-- digits have no sign
unsigned : (ds : List ℕ) → IsNumeral 10 ds → (starts_with_minus ds ≡ false) × (without_leading_sign ds ≡ ds)
unsigned [] h = absurd (omega (arith, h.0))
unsigned (c ∷ cs) h = (
  no_dash c h.1.0,
  ap (λ (b : Bool). cond b (drop 1 (c ∷ cs)) (drop (cond (c == 43) 1 0) (c ∷ cs))) (no_dash c h.1.0) ∙ ap (λ (b : Bool). drop (cond b 1 0) (c ∷ cs)) (no_plus c h.1.0),
)

-- ---- numbers that were made

-- a decimal form is good, and is the number
record IsRead (form : List ℕ) (z : ℤ) : Type 0 where
  good : is_integer_form form ≡ true
  is : signed_digits_value 10 form ≡ z

read : (z : ℤ) → is_in_range z ≡ true → IsRead (signed_decimal z) z
unfolding is_in_range is_integer_form
read (pos n) h =
    let d = decimal_is_IsNumeral n (small n h) in
    let u = unsigned (decimal n) d.0 in
    record {
      good = ap are_digits u.1 ∙ numeral_so (decimal n) d.0;
      is = ap (λ (b : Bool). cond b (neg_ℤ (pos (digits_value 10 (without_leading_sign (decimal n))))) (pos (digits_value 10 (without_leading_sign (decimal n))))) u.0
          ∙ ap (λ (v : List ℕ). pos (digits_value 10 v)) u.1 ∙ ap (λ (v : ℕ). pos v) d.1;
    }
  where
    small : (n : ℕ) → nat_lt n (2 ^ 63) ≡ true → n < 2 ^ 64
    small n e = grind (arith, nat_tests)
read (negsuc n) h =
    let d = decimal_is_IsNumeral (suc n) (small n h) in
    record { good = numeral_so (decimal (suc n)) d.0; is = ap (λ (v : ℕ). neg_ℤ (pos v)) d.1 }
  where
    small : (n : ℕ) → nat_lt n (2 ^ 63) ≡ true → suc n < 2 ^ 64
    small n e = grind (arith, nat_tests)

read_back : (z : ℤ) → is_in_range z ≡ true → read_integer integers.Integer (signed_decimal z) ≡ Some z
unfolding is_good_form
read_back z h =
    let r = read z h in
    ap (λ (b : Bool). option_and_then if_in_range (if b && true then Some (signed_digits_value 10 (signed_decimal z)) else None)) r.good
    ∙ ap if_in_range r.is ∙ ap (λ (b : Bool). if b then Some z else None) h

integers_kind : kind_of xsd_integer ≡ kind.Integer integers.Integer
unfolding kind_of integer_type
integers_kind = refl

pub worth_back : (z : ℤ) → is_in_range z ≡ true → worth_of (integer z) ≡ worth.Integer z
unfolding worth_of integer
worth_back z h = ap (λ (k : Kind). worth_by k (signed_decimal z)) integers_kind ∙ ap integer_worth (read_back z h)

pub boolean_back : (b : Bool) → worth_of (boolean b) ≡ worth.Boolean b
unfolding worth_of boolean kind_of integer_type read_boolean
boolean_back true = refl
boolean_back false = refl

-- ---- no other number has a value

ranged : (o : Option ℤ) (z : ℤ) → integer_worth (option_and_then if_in_range o) ≡ worth.Integer z → is_in_range z ≡ true
ranged None z e = absurd (cc)
ranged (Some n) z e = by (is_in_range n) refl e
  where
    by : (b : Bool) → is_in_range n ≡ b → integer_worth (if b then Some n else None) ≡ worth.Integer z → is_in_range z ≡ true
    by true f g = let same : n ≡ z = cc in sym (ap is_in_range same) ∙ f
    by false f g = absurd (cc)

no_truth : (o : Option Bool) (z : ℤ) → boolean_worth o ≡ worth.Integer z → ⊥
no_truth None z e = absurd (cc)
no_truth (Some b) z e = absurd (cc)

ranged_kind : (k : Kind) (form : List ℕ) (z : ℤ) → worth_by k form ≡ worth.Integer z → is_in_range z ≡ true
ranged_kind (kind.Integer t) form z e = ranged (written t form) z e
  where
    written : IntegerType → List ℕ → Option ℤ
    written t form = if is_good_form t form then Some (signed_digits_value 10 form) else None
ranged_kind kind.Boolean form z e = absurd (no_truth (read_boolean form) z e)
ranged_kind kind.Text form z e = absurd (cc)
ranged_kind kind.Tagged form z e = absurd (cc)
ranged_kind kind.Other form z e = absurd (cc)

pub in_range_of : (t : Term) (z : ℤ) → worth_of t ≡ worth.Integer z → is_in_range z ≡ true
unfolding worth_of
in_range_of (term.Iri a) z e = absurd (cc)
in_range_of (term.Literal a) z e = ranged_kind (kind_of a.datatype) a.form z e

pub made : Made
made = record {
  truths = truth_back;
  booleans = boolean_back;
  numbers = λ z h. worth_back z (fits_is z ∙ h);
  values = λ t z e. sym (fits_is z) ∙ in_range_of t z e;
}
