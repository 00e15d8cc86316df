-- Numbers by their digits, which serve private functions.
use Rattle.std.specs.Prelude.{ℕ, ◌≢◌, ◌==◌, ℤ, pos, neg_ℤ, Bool, List, [], ◌∷◌, slice_index, if◌then◌else◌}
use Rattle.std.specs.Str.Parse.{AllDigits}

-- digits, of which the first isn't 0; zero has none
pub record IsPlain (ds : List ℕ) : Type 0 where
  pub digits : AllDigits 10 ds
  pub first : slice_index ds 0 ≢ 48

-- digits without the zeros that they begin with
abbrev pub without_zeros : List ℕ → List ℕ
without_zeros [] = []
without_zeros (c ∷ cs) = if c == 48 then without_zeros cs else c ∷ cs

-- a number, or its negative
abbrev pub signed : Bool → ℕ → ℤ
signed negative n = if negative then neg_ℤ (pos n) else pos n
