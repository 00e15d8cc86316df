-- The pieces of a tape.
use Rattle.std.specs.Prelude.{◌≡◌, ℕ, ◌+◌, ◌-◌, ◌*◌, ◌≤◌, Bool, false, not, ◌&&◌, ◌==◌, nat_le, if◌then◌else◌, List, [], ◌∷◌, ◌++◌, length}
use Rattle.std.specs.Fmt.{decimal}
use Rattle.fx_tape.specs.Spellings.{Spelling}

-- a fixed word
abbrev pub word : List ℕ → Spelling (Unit {0})
word text bytes u = bytes ≡ text

-- a number of a range, in decimal, and the byte that ends it
pub record IsNumber (least most end : ℕ) (bytes : List ℕ) (n : ℕ) : Type 0 where
  pub low : least ≤ n
  pub high : n ≤ most
  pub text : bytes ≡ decimal n ++ end ∷ []

abbrev pub number : ℕ → ℕ → ℕ → Spelling ℕ
number least most end bytes n = IsNumber least most end bytes n

-- so many bytes, and LF
pub record IsBlock (size : ℕ) (bytes x : List ℕ) : Type 0 where
  pub long : length x ≡ size
  pub text : bytes ≡ x ++ 10 ∷ []

abbrev pub block : ℕ → Spelling (List ℕ)
block size bytes x = IsBlock size bytes x

abbrev pub is_digit : ℕ → Bool
is_digit b = nat_le 48 b && nat_le b 57

-- a number of the range goes on with this byte behind digits of a value, or begins with it
abbrev pub goes_on : ℕ → ℕ → Bool → ℕ → ℕ → Bool
goes_on least most is_first value b =
    if is_digit b then
    (if is_first then nat_le least (b - 48) && nat_le (b - 48) most
    else not (value == 0) && nat_le (value * 10 + (b - 48)) most)
    else false
