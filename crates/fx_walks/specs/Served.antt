-- How SERVICE is served, and what groups mean then.
use Rattle.std.specs.Prelude.{ℕ, List, Option}
use Rattle.fx_terms.specs.declared.triples.Triple.{Triple}
use Rattle.fx_algebra.specs.Groups.{Meaning, Part as GroupPart, element_meaning, group_meaning, meaning}
use Rattle.fx_algebra.specs.Solutions.{Bindings}
use Rattle.fx_algebra.specs.declared.queries.Element.{Element, fold-Element}
use Rattle.fx_algebra.specs.declared.queries.Group.{Group}

-- The graph that each IRI has for SERVICE, the numbers of the occurrences that are down, and the rows at hand of the occurrence of a number: none where
-- it was refused, or stands behind one that was.
pub record Served : Type 0 where
  pub graphs : List ℕ → List Triple
  pub down : List ℕ
  pub rows : ℕ → Option (List Bindings)

-- what a group and an element are to the group around them, where SERVICE is served so
abbrev pub group_in : Served → Group → Meaning
group_in served = meaning served.graphs served.down

abbrev pub element_in : Served → Element → GroupPart
element_in served = fold-Element GroupPart Meaning (element_meaning served.graphs served.down) group_meaning
