-- Digits that are read as a number.
use Rattle.std.proofs.Common.{◌≡◌, ◌∙◌, ap, sym, ℕ, ◌<◌, Bool, true, false, cond, List, length, Some, None, Result, Ok, Err, refl, arith, tests, ◌==◌, nat_lt}
use Rattle.std.specs.Str.{all_ascii_digits}
use Rattle.std.specs.Str.Parse.{digits_value, ParsesUnsigned, without_leading_plus}
use Rattle.std.proofs.lemmas.Str.Parse.{IsNumeralModel, numerals_by_value, tells_all_ascii_digits, parse_gives, without_leading_plus_none, not_in_digits}
use Rattle.fx_words.specs.Commands.{is_digits, in_range, number_to}

own : IsNumeralModel (λ ds. all_ascii_digits ds ≡ true) (digits_value 10)
own = numerals_by_value _ tells_all_ascii_digits

record IsSome20 (word : List ℕ) : Type 0 where
  some : 0 < length word
  digits : all_ascii_digits word ≡ true

parts : (word : List ℕ) → is_digits word ≡ true → IsSome20 word
parts word h = record { some = grind (arith, tests); digits = grind (arith, tests) }

plain : (word : List ℕ) → is_digits word ≡ true → without_leading_plus word ≡ word
plain word h = let p = parts word h in without_leading_plus_none word (not_in_digits own word 43 p.digits (λ r. omega arith) 0 p.some)

range_of : (most : ℕ) (word : List ℕ) → is_digits word ≡ true → in_range most (digits_value 10 word) ≡ number_to most word
range_of most word h = ap (λ (b : Bool). cond b (in_range most (digits_value 10 word)) None) (sym h)

pub read_as : (most : ℕ) (word : List ℕ) (x : ℕ) → is_digits word ≡ true → x ≡ digits_value 10 (without_leading_plus word) → in_range most x ≡ number_to most word
read_as most word x h e = ap (in_range most) (e ∙ ap (digits_value 10) (plain word h)) ∙ range_of most word h

too_wide : (most n : ℕ) (b : Bool) → most < 18446744073709551616 → nat_lt most n ≡ b → (n < 18446744073709551616 → ⊥) → None ≡ in_range most n
too_wide most n false below e h = absurd (h (grind (arith, tests)))
too_wide most n true below e h = at (n == 0)
  where
    at : (b : Bool) → None ≡ cond b None (cond (nat_lt most n) None (Some n))
    at true = refl
    at false = ap (λ (c : Bool). cond c None (Some n)) {x = true} {y = nat_lt most n} (sym e)

not_both : (n : ℕ) (r : Result ℕ (Unit {0})) → r ≡ Err tt → r ≡ Ok n → ⊥
not_both n (Ok x) e f = cc
not_both n (Err u) e f = cc

pub not_read : (most : ℕ) (word : List ℕ) → most < 18446744073709551616 → is_digits word ≡ true → ParsesUnsigned {E = Unit {0}} 64 10 word (Err tt) → None ≡ number_to most word
not_read most word below h p =
    let q = parts word h in
    too_wide most (digits_value 10 word) (nat_lt most (digits_value 10 word)) below refl
    (λ small. not_both (digits_value 10 word) (Err tt) refl (parse_gives own 64 word (Err tt) p q.digits q.some (omega arith)))
    ∙ range_of most word h
