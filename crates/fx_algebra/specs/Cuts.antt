-- The stations of a query, and the rows that enter each of them over a graph. Plans, what is explained, the numbers of SERVICE and what
-- is sent all go by these.
use Rattle.std.specs.Prelude.{◌≡◌, ℕ, List, [], length}
use Rattle.fx_terms.specs.declared.triples.Triple.{Triple}
use Rattle.fx_algebra.specs.Answers.{no_graphs}
use Rattle.fx_algebra.specs.Groups.{Cut, meaning, one_empty}
use Rattle.fx_algebra.specs.Scopes.{group_mentions}
use Rattle.fx_algebra.specs.Solutions.{Bindings}
use Rattle.fx_algebra.specs.Stations.{Station}
use Rattle.fx_algebra.specs.declared.queries.Group.{Group}
use Rattle.fx_algebra.specs.declared.queries.Query.{Query}

-- the cut of a group, where each IRI has a graph, and the occurrences of SERVICE of these numbers are down
abbrev pub cut : (List ℕ → List Triple) → List ℕ → Group → Cut
cut graphs down g = (meaning graphs down g).cut

-- the stations of a query, in text order
abbrev pub stations : Query → List Station
stations q = (cut no_graphs [] q.group).stations 0 []

-- the rows that enter each of them over a graph
abbrev pub seeds : Query → List Triple → (List ℕ → List Triple) → List ℕ → List (List Bindings)
seeds q graph graphs down = (cut graphs down q.group).seeds graph 0 one_empty

-- ---- laws

-- the stations are the same whatever graphs the IRIs have, and whichever occurrences are down
abbrev pub StationsAreFixed : Type 0
StationsAreFixed = (q : Query) (graphs : List ℕ → List Triple) (down : List ℕ) → (cut graphs down q.group).stations 0 [] ≡ stations q

-- each station has its rows
abbrev pub SeedsForEachStation : Type 0
SeedsForEachStation = (q : Query) (graph : List Triple) (graphs : List ℕ → List Triple) (down : List ℕ) → length (seeds q graph graphs down) ≡ length (stations q)

-- a group binds the names of its scope
abbrev pub CutHasTheNames : Type 0
CutHasTheNames = (g : Group) (graphs : List ℕ → List Triple) (down : List ℕ) → (cut graphs down g).names ≡ group_mentions g

-- the pass keeps the group as it was
abbrev pub MeaningHasTheTree : Type 0
MeaningHasTheTree = (g : Group) (graphs : List ℕ → List Triple) (down : List ℕ) → (meaning graphs down g).tree ≡ g
