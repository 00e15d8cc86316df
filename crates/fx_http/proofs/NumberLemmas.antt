-- Digits and their number.
use Rattle.std.proofs.Common.{◌≡◌, ℕ, ◌<◌, ◌≤◌, ◌^◌, Bool, true, false, List, [], ◌∷◌, length, refl, arith, tests, ◌&&◌, Result, Ok}
use Rattle.std.specs.List.{All}
use Rattle.std.specs.Char.{is_ascii_digit}
use Rattle.std.specs.Str.{all_ascii_digits, IsUtf8}
use Rattle.std.specs.Str.Parse.{digits_value, ParsesUnsigned}
use Rattle.std.proofs.lemmas.List.Elements.{All-cons, All-nil}
use Rattle.std.proofs.lemmas.Str.{IsUtf8-from_ascii}
use Rattle.std.proofs.lemmas.Str.Ascii.{IsAscii-from_all}
use Rattle.std.proofs.lemmas.Str.Parse.{IsNumeralModel, numerals_by_value, tells_all_ascii_digits, parse_gives, digits_value_short}
use Rattle.fx_http.specs.Fields.{is_number}

-- both tests pass
pub both : (a b : Bool) → (a && b) ≡ true → (a ≡ true) × (b ≡ true)
both true b h = (refl, h)
both false b h = cc

pub own : IsNumeralModel (λ ds. all_ascii_digits ds ≡ true) (digits_value 10)
own = numerals_by_value _ tells_all_ascii_digits

all_ascii : (bs : List ℕ) → all_ascii_digits bs ≡ true → All (λ b. b < 128) bs
all_ascii [] h = All-nil (λ b. b < 128)
all_ascii (b ∷ bs) h =
    let t = both (is_ascii_digit b) (all_ascii_digits bs) h in
    All-cons (λ b. b < 128) b bs (digit_ascii b t.0) (all_ascii bs t.1)
  where
    digit_ascii : (b : ℕ) → is_ascii_digit b ≡ true → b < 128
    digit_ascii b h = grind (arith, tests)

record IsSome19 (value : List ℕ) : Type 0 where
  pub some : 1 ≤ length value
  pub most : length value ≤ 19
  pub digits : all_ascii_digits value ≡ true

parts : (value : List ℕ) → is_number value ≡ true → IsSome19 value
parts value h = record { some = grind (arith, tests); most = grind (arith, tests); digits = grind (arith, tests) }

pub number_is_utf8 : (value : List ℕ) → is_number value ≡ true → IsUtf8 value
number_is_utf8 value h = IsUtf8-from_ascii value (IsAscii-from_all value (all_ascii value (parts value h).digits))

pub number_small : (value : List ℕ) → is_number value ≡ true → digits_value 10 value < 2 ^ 64
number_small value h =
    let p = parts value h in
    let small : digits_value 10 value < 10 ^ 19 = digits_value_short own value 19 p.digits p.most in
    omega arith

pub number_parses : {E : Type 0} (value : List ℕ) (r : Result ℕ E) → is_number value ≡ true → ParsesUnsigned 64 10 value r → r ≡ Ok (digits_value 10 value)
number_parses value r h p =
    let q = parts value h in
    parse_gives own 64 value r p q.digits (omega arith) (number_small value h)
