-- What a reader of std gave, where it tells what remains.
use Rattle.std.specs.Prelude.{◌≡◌, ℕ, List, Option, IfSome, take}

-- these are the first of the bytes that remained, as many as the most
abbrev pub IsFrontOf : Option (List ℕ) → ℕ → List ℕ → Type 0
IsFrontOf remaining most bytes = IfSome remaining (λ all. bytes ≡ take most all)
