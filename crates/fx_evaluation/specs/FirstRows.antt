-- Whether a group has a row, where no other endpoint is asked.
use Rattle.std.specs.Prelude.{◌≡◌, ℕ, Bool, List}
use Rattle.fx_terms.specs.declared.triples.Triple.{Triple}
use Rattle.fx_algebra.specs.Answers.{has_rows}
use Rattle.fx_algebra.specs.Groups.{group_rows, meaning}
use Rattle.fx_algebra.specs.declared.queries.Group.{Group}
use Rattle.fx_evaluation.specs.GroupRows.{AreDown}

-- it says whether the group has a row over a graph, whatever graphs the endpoints have, where all that the group would ask are down
pub record TellsOfRows (group : Group) (graph : List Triple) (truth : Bool) : Type 0 where
  pub same : (graphs : List ℕ → List Triple) (down : List ℕ) (number : ℕ) → AreDown down number (meaning graphs down group).services
      → truth ≡ has_rows (group_rows (meaning graphs down group) graph number)
