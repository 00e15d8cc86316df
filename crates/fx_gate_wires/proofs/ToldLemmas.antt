-- What a gate tells.
use Rattle.std.proofs.Common.{◌≡◌, ◌∙◌, ap, subst, refl, ℕ, Bool, true, false, List, [], ◌∷◌, ◌++◌, Option, Some, None, if◌then◌else◌, inl, inr}
use Rattle.std.specs.Prelude.{bytes_eq, ◌≢◌}
use Rattle.std.specs.List.{AllByRecursion, flat_map, list_all}
use Rattle.std.proofs.lemmas.List.Elements.{All-from_recursion, recursion_from_All}
use Rattle.std.proofs.lemmas.Slice.Eq.{bytes_eq-Decides}
use Rattle.fx_terms.specs.Graphs.{IsGraph}
use Rattle.fx_terms.specs.Triples.{IsTriple, triple_cmp, triples_total}
use Rattle.fx_terms.specs.declared.triples.Triple.{Triple}
use Rattle.fx_terms.proofs.OrderLemmas.{exact_triples}
use Rattle.fx_terms.proofs.SetLemmas.{Among, among_from_set}
use Rattle.fx_outside.specs.Endpoints.{EndpointParts}
use Rattle.fx_algebra.specs.Graphs.{union}
use Rattle.fx_algebra.proofs.UnionLemmas.{union_rises}
use Rattle.fx_traffic.specs.Gains.{TellAll}
use Rattle.fx_wire.specs.Exchanges.{Seen}
use Rattle.fx_gate_wires.specs.Told.{first_faults, first_graph, gate_seen, is_triple, told_all, union_told, with_told}
use Rattle.fx_gate_wires.specs.Laws.{GatesTellOthers, GatesTellTheUnion}
use Rattle.fx_gate_wires.proofs.TripleLemmas.{all_complete, all_sound}

-- ---- the graph of each endpoint

heads : (a b : List Triple) (x y : List (List Triple)) → Some (a ∷ x) ≡ Some (b ∷ y) → (a ≡ b) × (x ≡ y)
heads a b x y h = (cc, cc)

module _ (w : Seen) where
  module _ (e : EndpointParts) (es : List EndpointParts) (rest : (all : List (List Triple)) → told_all w.graph es ≡ Some all → TellAll (w ∷ []) es all) where
    told_first : (o : Option (List Triple)) → w.graph e.iri ≡ o → (p : Option (List (List Triple))) → told_all w.graph es ≡ p → (all : List (List Triple)) → with_told o p ≡ Some all → TellAll (w ∷ []) (e ∷ es) all
    told_first None is p each all k = absurd (cc)
    told_first (Some g) is None each all k = absurd (cc)
    told_first (Some g) is (Some gs) each [] k = absurd (cc)
    told_first (Some g) is (Some gs) each (a ∷ all) k =
        let same = heads g a gs all k in (
          All-from_recursion (λ (v : Seen). v.graph e.iri ≡ Some a) (w ∷ []) (is ∙ ap Some same.0, tt),
          rest all (each ∙ ap Some same.1),
        )

  pub told_each : (es : List EndpointParts) (graphs : List (List Triple)) → told_all w.graph es ≡ Some graphs → TellAll (w ∷ []) es graphs
  told_each [] [] h = tt
  told_each [] (g ∷ graphs) h = absurd (cc)
  told_each (e ∷ es) graphs h = told_first e es (told_each es) (w.graph e.iri) refl (told_all w.graph es) refl graphs h

  pub each_told : (es : List EndpointParts) (graphs : List (List Triple)) → TellAll (w ∷ []) es graphs → told_all w.graph es ≡ Some graphs
  each_told [] [] h = refl
  each_told [] (g ∷ graphs) h = absurd h
  each_told (e ∷ es) [] h = absurd h
  each_told (e ∷ es) (g ∷ graphs) h =
      let one : w.graph e.iri ≡ Some g = (recursion_from_All (λ (v : Seen). v.graph e.iri ≡ Some g) (w ∷ []) h.0).0 in
      ap (λ (o : Option (List Triple)). with_told o (told_all w.graph es)) one ∙ ap (λ (o : Option (List (List Triple))). with_told (Some g) o) (each_told es graphs h.1)

-- ---- the union

pub union_is_graph : (graphs : List (List Triple)) → list_all is_triple (union graphs) ≡ true → IsGraph (union graphs)
union_is_graph graphs h = record { rises = union_rises graphs; terms = all_sound (union graphs) h }

-- ---- what is told of an address

pub at_own : (at address : List ℕ) (es : List EndpointParts) (count : ℕ) (wires : List Seen) → address ≡ at → (gate_seen at es count wires).graph address ≡ union_told (told_all (first_graph wires) es)
at_own at address es count wires is = ap (λ (b : Bool). if b then union_told (told_all (first_graph wires) es) else first_graph wires address) ((bytes_eq-Decides address at).1 is)

pub differs : (a b : List ℕ) → a ≢ b → bytes_eq a b ≡ false
differs a b h = by (bytes_eq a b) refl
  where
    by : (c : Bool) → bytes_eq a b ≡ c → c ≡ false
    by true is = absurd (h ((bytes_eq-Decides a b).0 is))
    by false is = refl

pub elsewhere : (at address : List ℕ) (es : List EndpointParts) (count : ℕ) (wires : List Seen) → address ≢ at → (gate_seen at es count wires).graph address ≡ first_graph wires address
elsewhere at address es count wires h = ap (λ (b : Bool). if b then union_told (told_all (first_graph wires) es) else first_graph wires address) (differs address at h)

pub count_own : (at address : List ℕ) (es : List EndpointParts) (count : ℕ) (wires : List Seen) → address ≡ at → (gate_seen at es count wires).faults address ≡ count
count_own at address es count wires is = ap (λ (b : Bool). if b then count else first_faults wires address) ((bytes_eq-Decides address at).1 is)

pub count_elsewhere : (at address : List ℕ) (es : List EndpointParts) (count : ℕ) (wires : List Seen) → address ≢ at → (gate_seen at es count wires).faults address ≡ first_faults wires address
count_elsewhere at address es count wires h = ap (λ (b : Bool). if b then count else first_faults wires address) (differs address at h)

-- ---- laws

one_of : (t : Triple) (part others : List Triple) → AllByRecursion IsTriple part → (Among t others → IsTriple t) → Among t (part ++ others) → IsTriple t
one_of t [] others h rest m = rest m
one_of t (s ∷ part) others h rest (inl m) = subst IsTriple m h.0
one_of t (s ∷ part) others h rest (inr m) = one_of t part others h.1 rest m

all_triples : (graphs : List (List Triple)) → AllByRecursion IsGraph graphs → (t : Triple) → Among t (flat_map (λ (graph : List Triple). graph) graphs) → IsTriple t
all_triples [] h t m = absurd m
all_triples (g ∷ graphs) h t m = one_of t g (flat_map (λ (graph : List Triple). graph) graphs) (recursion_from_All IsTriple g h.0.terms) (all_triples graphs h.1 t) m

each_among : {X : Type 0} (P : X → Type 0) (xs : List X) → ((x : X) → Among x xs → P x) → AllByRecursion P xs
each_among P [] h = tt
each_among P (x ∷ xs) h = (h x (inl refl), each_among P xs (λ y m. h y (inr m)))

pub tell_the_union : GatesTellTheUnion
tell_the_union at es count first others graphs told known =
    at_own at at es count (first ∷ others) refl
    ∙ ap union_told (each_told first es graphs told)
    ∙ ap (λ (b : Bool). if b then Some (union graphs) else None) (all_complete (union graphs) (All-from_recursion IsTriple (union graphs) (each_among IsTriple (union graphs) of_each)))
  where
    of_each : (t : Triple) → Among t (union graphs) → IsTriple t
    of_each t m = all_triples graphs (recursion_from_All IsGraph graphs known) t (among_from_set triple_cmp triples_total exact_triples t (flat_map (λ (graph : List Triple). graph) graphs) m)

pub tell_others : GatesTellOthers
tell_others at es count first others address h = (elsewhere at address es count (first ∷ others) h, count_elsewhere at address es count (first ∷ others) h)
