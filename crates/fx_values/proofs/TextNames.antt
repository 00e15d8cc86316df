-- The columns of a block are names.
use Rattle.std.proofs.Common.{◌≡◌, ◌∙◌, ap, refl, ℕ, zero, suc, ◌<◌, ◌≤◌, ◌^◌, Bool, true, false, ◌&&◌, ◌||◌, List, [], ◌∷◌, codes, arith}
use Rattle.std.specs.Prelude.{nat_le}
use Rattle.std.specs.List.{list_all}
use Rattle.std.specs.Fmt.{decimal}
use Rattle.std.specs.Str.{IsAscii}
use Rattle.std.specs.Str.Parse.{AllDigits}
use Rattle.std.proofs.lemmas.Bool.Decides.{nat_tests}
use Rattle.std.proofs.lemmas.Fmt.{decimal_is_IsNumeral, IsAscii-decimal}
use Rattle.std.proofs.lemmas.Str.{IsAscii-append, IsUtf8-from_ascii, chars-IsAscii}
use Rattle.std.proofs.lemmas.Str.Parse.{digit_from_value}
use Rattle.fx_terms.specs.Names.{IsName, is_base_char, is_between, is_name, is_name_char, is_name_start, named}
use Rattle.fx_values.specs.Values.{ColumnsAreNames, number_name, sent_name}

-- ---- names

between : (c : ℕ) → 48 ≤ c → c ≤ 57 → (nat_le 48 c && nat_le c 57) ≡ true
between c low high = grind (arith, nat_tests)

start_of : (x y z : Bool) → z ≡ true → (x || y || z) ≡ true
start_of true true z h = refl
start_of true false z h = refl
start_of false true z h = refl
start_of false false z h = h

char_of : (s x y z : Bool) → s ≡ true → (s || x || y || z) ≡ true
char_of true x y z h = refl
char_of false x y z h = cc

digit_char : (c : ℕ) → 48 ≤ c → c ≤ 57 → is_name_char c ≡ true
digit_char c low high = char_of (is_name_start c) _ _ _ (start_of (is_base_char c) _ (is_between 48 57 c) (between c low high))

digit_chars : (ds : List ℕ) → AllDigits 10 ds → list_all is_name_char ds ≡ true
digit_chars [] d = refl
digit_chars (c ∷ cs) d =
    let v = digit_from_value c d.0 in
    ap (λ (b : Bool). b && list_all is_name_char cs) (digit_char c (omega (arith, v)) (omega (arith, v))) ∙ digit_chars cs d.1

decimal_chars : (n : ℕ) → n < 2 ^ 64 → list_all is_name_char (decimal n) ≡ true
decimal_chars n low = digit_chars (decimal n) (decimal_is_IsNumeral n low).0.1

a_name : (text : List ℕ) → IsAscii text → is_name text ≡ true → IsName text
a_name text ascii h = record { utf8 = IsUtf8-from_ascii text ascii; name = ap (named text) (ap is_name (chars-IsAscii text ascii) ∙ h) }

one_ascii : (c : ℕ) → c < 128 → IsAscii (c ∷ [])
one_ascii c low zero = low
one_ascii c low (suc i) = omega arith

sent_ascii : (j : ℕ) → j < 2 ^ 64 → IsAscii (sent_name j)
sent_ascii j a = IsAscii-append (codes "v") (decimal j) (one_ascii 118 (omega arith)) (IsAscii-decimal j a)

pub sent_is_name : (j : ℕ) → j < 2 ^ 64 → IsName (sent_name j)
sent_is_name j a = a_name (sent_name j) (sent_ascii j a) (decimal_chars j a)

pub number_is_name : IsName number_name
number_is_name = a_name number_name (one_ascii 107 (omega arith)) refl

pub columns_are_names : ColumnsAreNames
columns_are_names = record { number = number_is_name; sent = sent_is_name }
