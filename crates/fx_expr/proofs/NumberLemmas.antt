-- What `parse` and the checked operators of `i64` say, in the words of the definitions.
use Rattle.std.proofs.Common.{◌≡◌, ◌∙◌, refl, ap, ℕ, ◌<◌, ◌^◌, not, nat_eq, Bool, true, false, List, [], ◌∷◌, length, arith}
use Rattle.std.specs.Prelude.{ℤ, pos, negsuc, Option, Some, None, Result, Ok, Err, FitsSigned, if◌then◌else◌}
use Rattle.std.specs.Int.{w64}
use Rattle.std.specs.Option.{SomeIff}
use Rattle.std.specs.Result.{result_ok, OkIff}
use Rattle.std.specs.List.{list_all}
use Rattle.std.specs.Str.Parse.{AllDigits, IsNumeral, ParsesSigned, without_leading_sign, signed_digits_value}
use Rattle.std.specs.Char.{digit_value}
use Rattle.std.proofs.lemmas.Bool.{ltb-true, lt-ltb, ne_eqb, and_parts, and_from}
use Rattle.fx_terms.specs.Iris.{is_digit}
use Rattle.fx_algebra.specs.declared.worths.IntegerType.{IntegerType}
use Rattle.fx_algebra.specs.Worths.{is_in_range, if_in_range, are_digits, is_integer_form, is_good_form, is_of}

-- ---- the range

pub fits_so : (z : ℤ) → FitsSigned w64 z → is_in_range z ≡ true
unfolding is_in_range
fits_so (pos n) h = lt-ltb n (2 ^ 63) h.sfits
fits_so (negsuc n) h = lt-ltb n (2 ^ 63) h.sfits

pub fits_from : (z : ℤ) → is_in_range z ≡ true → FitsSigned w64 z
unfolding is_in_range
fits_from (pos n) h = record { sfits = ltb-true n (2 ^ 63) h }
fits_from (negsuc n) h = record { sfits = ltb-true n (2 ^ 63) h }

refused : (z : ℤ) (b : Bool) → is_in_range z ≡ b → (FitsSigned w64 z → ⊥) → None ≡ (if b then Some z else None)
refused z true e h = absurd (h (fits_from z e))
refused z false e h = refl

pub checked : (z : ℤ) (r : Option ℤ) → SomeIff r (FitsSigned w64 z) z → r ≡ if_in_range z
checked z (Some x) h = rw (fits_so z h.0) (ap Some h.1)
checked z None h = refused z (is_in_range z) refl h

-- ---- digits

digit_so : (c : ℕ) → digit_value c < 10 → is_digit c ≡ true
digit_so c h = grind arith

digit_from : (c : ℕ) → is_digit c ≡ true → digit_value c < 10
digit_from c h = grind arith

digits_so : (ds : List ℕ) → AllDigits 10 ds → list_all is_digit ds ≡ true
digits_so [] h = refl
digits_so (c ∷ cs) h = rw (digit_so c h.0) (digits_so cs h.1)

digits_from : (ds : List ℕ) → list_all is_digit ds ≡ true → AllDigits 10 ds
digits_from [] h = tt
digits_from (c ∷ cs) h = let parts = and_parts (is_digit c) (list_all is_digit cs) h in (digit_from c parts.0, digits_from cs parts.1)

-- a list that has an element isn't empty
filled : (c : ℕ) (cs : List ℕ) → not (nat_eq (length (c ∷ cs)) 0) ≡ true
filled c cs = ap not (ne_eqb (length (c ∷ cs)) 0 (λ e. omega (arith, e)))

pub numeral_so : (ds : List ℕ) → IsNumeral 10 ds → are_digits ds ≡ true
numeral_so [] h = absurd (omega (arith, h.0))
numeral_so (c ∷ cs) h = and_from (not (nat_eq (length (c ∷ cs)) 0)) (list_all is_digit (c ∷ cs)) (filled c cs) (digits_so (c ∷ cs) h.1)

pub numeral_from : (ds : List ℕ) → are_digits ds ≡ true → IsNumeral 10 ds
numeral_from [] h = cc
numeral_from (c ∷ cs) h = (omega arith, digits_from (c ∷ cs) (and_parts (not (nat_eq (length (c ∷ cs)) 0)) (list_all is_digit (c ∷ cs)) h).1)

-- ---- integers

-- the digits of a form
pub form_digits : (form : List ℕ) → is_integer_form form ≡ true → AllDigits 10 (without_leading_sign form)
unfolding is_integer_form
form_digits form h = (numeral_from (without_leading_sign form) h).1

form_numeral : (form : List ℕ) → is_integer_form form ≡ true → IsNumeral 10 (without_leading_sign form)
unfolding is_integer_form
form_numeral form h = numeral_from (without_leading_sign form) h

pub parsed : {E : Type 0} (form : List ℕ) (r : Result ℤ E) → is_integer_form form ≡ true → ParsesSigned w64 10 form r → result_ok r ≡ if_in_range (signed_digits_value 10 form)
parsed form (Ok x) good h = rw (fits_so (signed_digits_value 10 form) h.0.1) (ap Some h.1)
parsed form (Err e) good h = refused (signed_digits_value 10 form) (is_in_range (signed_digits_value 10 form)) refl (λ fits. h (form_numeral form good, fits))

-- a good form is a form
pub form_of_good : (t : IntegerType) (form : List ℕ) → is_good_form t form ≡ true → is_integer_form form ≡ true
unfolding is_good_form
form_of_good t form h = (and_parts (is_integer_form form) (is_of t (signed_digits_value 10 form)) h).0

pub converted : {E : Type 0} (z : ℤ) (r : Result ℤ E) → OkIff r (FitsSigned w64 z) z → result_ok r ≡ if_in_range z
converted z (Ok x) h = rw (fits_so z h.0) (ap Some h.1)
converted z (Err e) h = refused z (is_in_range z) refl h

pub on_numbers : {X : Type 0} {m m2 n n2 : ℤ} (f : ℤ → ℤ → X) → m ≡ m2 → n ≡ n2 → f m n ≡ f m2 n2
on_numbers {X} {m} {m2} {n} {n2} f d e = ap (λ (k : ℤ). f k n) d ∙ ap (λ (k : ℤ). f m2 k) e
