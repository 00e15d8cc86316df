-- Which occurrence of SERVICE would have to be asked: the first that isn't down (SPARQL 1.1 Federated Query, section 4).
use Rattle.std.specs.Prelude.{◌≡◌, ◌<◌, ℕ, Bool, false, List, [], ◌∷◌, length, Option, Some, None, if◌then◌else◌}
use Rattle.std.proofs.Common.{get_or, suc}
use Rattle.fx_algebra.specs.Groups.{is_down}
use Rattle.fx_algebra.specs.Occurrences.{Occurrence, services}
use Rattle.fx_algebra.specs.declared.queries.Query.{Query}
use Rattle.fx_evaluation.specs.declared.answering.MemberError.{MemberError}
use Rattle.fx_evaluation.specs.declared.answering.MemberError.TheVariants.{ServiceHere, Memory}

-- the number of the first occurrence, of those that are numbered from a number on, that isn't down
abbrev pub first_up : List ℕ → ℕ → List Occurrence → Option ℕ
first_up down number [] = None
first_up down number (o ∷ os) = if is_down down number then first_up down (suc number) os else Some number

abbrev pub first_here : Query → List ℕ → Option ℕ
first_here q down = first_up down 0 (services q)

-- why there is no answer
abbrev pub IsCause : Query → List ℕ → MemberError → Type 0
IsCause q down (ServiceHere place) = first_here q down ≡ Some place
IsCause q down Memory = Unit {0}

-- ---- how it is found

-- the marks are true at the numbers below a count that stand in a list
pub record AreMarks (numbers : List ℕ) (count : ℕ) (marks : List Bool) : Type 0 where
  pub long : length marks ≡ count
  pub each : (n : ℕ) → n < count → get_or marks n false ≡ is_down numbers n

-- the number of the first mark that is false, where they are numbered from a number on
abbrev pub first_false : ℕ → List Bool → Option ℕ
first_false number [] = None
first_false number (b ∷ bs) = if b then first_false (suc number) bs else Some number
