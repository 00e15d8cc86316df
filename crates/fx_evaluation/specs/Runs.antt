-- A run of triple patterns, as far as it was gone through.
use Rattle.std.specs.Prelude.{◌≡◌, ◌⊎◌, ◌<◌, ℕ, List, ◌∷◌, ◌++◌, Option, Some, None, IsPermutation}
use Rattle.fx_terms.specs.declared.patterns.Pattern.{Pattern}
use Rattle.fx_terms.specs.declared.triples.Triple.{Triple}
use Rattle.fx_algebra.specs.Evaluation.{extended, rows_from}
use Rattle.fx_algebra.specs.Groups.{one_empty}
use Rattle.fx_algebra.specs.Solutions.{Bindings}
use Rattle.fx_evaluation.specs.declared.estimates.Choice.{Choice}
use Rattle.fx_evaluation.specs.declared.estimates.Choice.TheVariants.{Beside, Apart}
use Rattle.fx_evaluation.specs.declared.estimates.Outlook.{Outlook}

-- the rows are those of some of the patterns by themselves, and the others are left
pub record IsPart (graph : List Triple) (all : List Pattern) (rows : List Bindings) (left : List Pattern) : Type 0 where
  pub taken : List Pattern
  pub split : IsPermutation all (taken ++ left)
  pub rows_are : IsPermutation (rows_from graph one_empty taken) rows

-- one of the patterns was looked up under the rows, and the others are left
pub record IsOneMore (graph : List Triple) (rows : List Bindings) (left : List Pattern) (more : List Bindings) (rest : List Pattern) : Type 0 where
  pub taken : Pattern
  pub split : IsPermutation left (taken ∷ rest)
  pub rows_are : IsPermutation (extended graph taken rows) more

-- where the pattern stands that is taken next
abbrev pub place_of : Choice → ℕ
place_of (Beside place) = place
place_of (Apart place) = place

-- it is one of both
abbrev pub IsOneOf : Option Outlook → Outlook → Outlook → Type 0
IsOneOf None other found = found ≡ other
IsOneOf (Some best) other found = (found ≡ other) ⊎ (found ≡ best)

-- the place of an element that is held back, of so many; or none, where a pattern is left, of so many
abbrev pub IsHeldNext : ℕ → ℕ → Option ℕ → Type 0
IsHeldNext held patterns None = 0 < patterns
IsHeldNext held patterns (Some place) = place < held
