-- What is known of files at a moment.
use Rattle.std.specs.Prelude.{ℕ, List, Option}

-- the content of each name, where it is told, and how often the file of each name has failed
pub record FilesSeen : Type 0 where
  pub content : List ℕ → Option (List ℕ)
  pub faults : List ℕ → ℕ
