-- Graphs (RDF 1.1 Concepts 3): sets of triples, as lists in the order of subject, predicate, object.
use Rattle.std.specs.Prelude.{List, [], ◌∷◌, ◌↔◌, All, Contains}
use Rattle.std.specs.declared.cmp.Ordering.{Ordering}
use Rattle.std.specs.List.Sorted.{IsStrictlySortedBy}
use Rattle.std.specs.FinMap.Entries.{by_order}
use Rattle.fx_terms.specs.Triples.{triple_cmp, IsTriple}
use Rattle.fx_terms.specs.declared.triples.Triple.{Triple}

-- an element at its place in a rising list, where it isn't there yet
unfoldable pub put_once : {X : Type 0} → (X → X → Ordering) → X → List X → List X
put_once R x [] = x ∷ []
put_once R x (y ∷ ys) = by_order (R x y) (x ∷ y ∷ ys) (y ∷ ys) (y ∷ put_once R x ys)

-- the elements of a list in their order, each once
unfoldable pub set_of : {X : Type 0} → (X → X → Ordering) → List X → List X
set_of R [] = []
set_of R (x ∷ xs) = put_once R x (set_of R xs)

-- the graph of some triples
abbrev pub graph_of : List Triple → List Triple
graph_of triples = set_of triple_cmp triples

-- the triples of a list, in their order, each once: there is one such list, `graph_of` the triples
pub record IsGraphOf (triples graph : List Triple) : Type 0 where
  pub rises : IsStrictlySortedBy triple_cmp graph
  pub same : (t : Triple) → Contains graph t ↔ Contains triples t

-- the list is a graph: its triples rise, and are what their readers accept
pub record IsGraph (graph : List Triple) : Type 0 where
  pub rises : IsStrictlySortedBy triple_cmp graph
  pub terms : All IsTriple graph
