-- When a call may answer a fault, and what it counts.
use Rattle.std.specs.Prelude.{◌≡◌, ◌≢◌, ℕ, ◌+◌, ◌<◌, ◌⊎◌, min, List}

-- the count rose in this call, or stands at the end of its type
abbrev pub HasRisen : ℕ → ℕ → Type 0
HasRisen before after = (before < after) ⊎ (after ≡ 18446744073709551615)

-- one more is counted, up to the end of the count's type
abbrev pub IsOneMore : ℕ → ℕ → Type 0
IsOneMore before after = after ≡ min (before + 1) 18446744073709551615

-- ---- counts, one for each name

-- each count is as it was
abbrev pub HaveStayed : (List ℕ → ℕ) → (List ℕ → ℕ) → Type 0
HaveStayed before after = (name : List ℕ) → after name ≡ before name

-- one more is counted at a name, and each other count is as it was
pub record IsOneMoreAt (name : List ℕ) (before after : List ℕ → ℕ) : Type 0 where
  pub here : after name ≡ before name + 1
  pub elsewhere : (other : List ℕ) → other ≢ name → after other ≡ before other
