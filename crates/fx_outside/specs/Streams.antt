-- What was written.
use Rattle.std.specs.Prelude.{◌≡◌, ◌<◌, ℕ, List, ◌++◌, length, take}

-- a front of these bytes was appended: none of them, some or all
abbrev pub AppendsFront : List ℕ → List ℕ → List ℕ → Type 0
AppendsFront before after bytes = (n : ℕ) × (after ≡ before ++ take n bytes)

-- a front of these bytes was appended that is shorter than they are: none of them or some, and never all
abbrev pub AppendsPart : List ℕ → List ℕ → List ℕ → Type 0
AppendsPart before after bytes = (n : ℕ) × (n < length bytes) × (after ≡ before ++ take n bytes)
