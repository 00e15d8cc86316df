-- The three orders of a graph's triples.
use Rattle.std.specs.Prelude.{◌≡◌, ◌≤◌, ◌<◌, ◌-◌, ℕ, zero, suc, List, Option, Some, map, length, take, drop, All}
use Rattle.std.specs.List.{slice_get}
use Rattle.std.specs.List.Sorted.{IsPermutation}
use Rattle.std.specs.Option.{option_to_list}
use Rattle.std.specs.declared.cmp.Ordering.{Ordering}
use Rattle.std.specs.Ordering.{on, then_cmp}
use Rattle.std.specs.Cmp.Lexicographic.{slice_cmp}
use Rattle.fx_terms.specs.Terms.{term_cmp}
use Rattle.fx_terms.specs.declared.terms.Term.{Term}
use Rattle.fx_terms.specs.declared.terms.Term.TheVariants.{Iri}
use Rattle.fx_terms.specs.declared.triples.Triple.{Triple}
use Rattle.fx_algebra.specs.Sequences.{sorted_by}
use Rattle.fx_store.specs.declared.orders.Part.{Part}
use Rattle.fx_store.specs.declared.orders.Part.TheVariants.{Subject, Predicate, Object}
use Rattle.fx_store.specs.declared.orders.Run.{Run}

-- the parts of a triple go round: behind the object comes the subject
abbrev pub next : Part → Part
next Subject = Predicate
next Predicate = Object
next Object = Subject

abbrev pub term_at : Part → Triple → Term
term_at Subject t = Iri t.subject
term_at Predicate t = Iri t.predicate
term_at Object t = t.object

abbrev pub part_cmp : Part → Triple → Triple → Ordering
part_cmp part = on (term_at part) term_cmp

-- by a part, and then by the one behind it
abbrev pub two_cmp : Part → Triple → Triple → Ordering
two_cmp part = then_cmp (part_cmp part) (part_cmp (next part))

-- by a part, and then by the two behind it
abbrev pub order_cmp : Part → Triple → Triple → Ordering
order_cmp part = then_cmp (part_cmp part) (two_cmp (next part))

-- the part that an order begins with: subject, predicate and object in orders 0, 1 and 2
abbrev pub first_of : ℕ → Part
first_of zero = Subject
first_of (suc zero) = Predicate
first_of (suc (suc order)) = Object

-- the triples in order 0, 1 and 2: the graph's own, by predicate, object, subject, and by object, subject, predicate
abbrev pub in_order : ℕ → List Triple → List Triple
in_order zero graph = graph
in_order (suc zero) graph = sorted_by (order_cmp Predicate) graph
in_order (suc (suc order)) graph = sorted_by (order_cmp Object) graph

-- the run lies within an order of the graph
pub record IsWithin (run : Run) (graph : List Triple) : Type 0 where
  pub order : run.order < 3
  pub rises : run.start ≤ run.end
  pub ends : run.end ≤ length graph

-- the triples of a run
abbrev pub triples_of : Run → List Triple → List Triple
triples_of run graph = take (run.end - run.start) (drop run.start (in_order run.order graph))

-- a place without a triple comes first
abbrev pub found_cmp : (Triple → Triple → Ordering) → Option Triple → Option Triple → Ordering
found_cmp order = on option_to_list (slice_cmp order)

-- the places of a graph's triples, each once
pub record AreAll (graph : List Triple) (places : List ℕ) : Type 0 where
  pub each : IsPermutation (map Some graph) (map (slice_get graph) places)

-- the same in an order
pub record AreInOrder (order : Triple → Triple → Ordering) (graph : List Triple) (places : List ℕ) : Type 0 where
  pub all : length places ≡ length graph
  pub sorted : map (slice_get graph) places ≡ map Some (sorted_by order graph)

-- the places in both further orders
pub record IsOrders (graph : List Triple) (places more : List ℕ) : Type 0 where
  pub by_predicate : AreInOrder (order_cmp Predicate) graph places
  pub by_object : AreInOrder (order_cmp Object) graph more

-- at each of the places the graph has a triple
abbrev pub AreFound : List Triple → List ℕ → Type 0
AreFound graph places = All (λ place. place < length graph) places
