-- The answer of a query without SERVICE, and a graph for each IRI that is an endpoint's.
use Rattle.std.proofs.Common.{◌≡◌, ◌∙◌, ap, refl, ℕ, zero, suc, ◌<◌, Bool, true, false, cond, List, [], ◌∷◌, length, arith, replicate, None}
use Rattle.std.specs.Prelude.{AllPairs, bytes_eq, ◌≢◌}
use Rattle.std.specs.List.{AllByRecursion}
use Rattle.std.proofs.lemmas.List.Elements.{recursion_from_All}
use Rattle.std.proofs.lemmas.Slice.Eq.{bytes_eq-Decides}
use Rattle.fx_terms.specs.declared.triples.Triple.{Triple}
use Rattle.fx_outside.specs.Endpoints.{EndpointParts}
use Rattle.fx_algebra.specs.Answers.{answer, answer_alone, form_answer, no_graphs, with_inline}
use Rattle.fx_algebra.specs.Occurrences.{services}
use Rattle.fx_algebra.specs.Solutions.{Bindings}
use Rattle.fx_algebra.specs.Units.{is_kept, of_kept}
use Rattle.fx_algebra.specs.declared.queries.Query.{Query}
use Rattle.fx_algebra.proofs.KeptLemmas.{all_kept}
use Rattle.fx_walks.specs.Served.{Served}
use Rattle.fx_services.proofs.FreeLemmas.{rows_free}
use Rattle.fx_traffic.specs.Gains.{TellAll}
use Rattle.fx_wire.specs.Exchanges.{Seen}
use Rattle.fx_outcomes.specs.Mediation.{Serve}
use Rattle.fx_outcomes.specs.Rounds.{everybody}
use Rattle.fx_rounds.proofs.ReplyLemmas.{pairs_head, pairs_tail}

-- ---- a query without SERVICE

abbrev served : (List ℕ → List Triple) → List ℕ → Served
served graphs down = record { graphs = graphs; down = down; rows = λ number. None }

pub answered_alone : (q : Query) (graph : List Triple) (graphs : List ℕ → List Triple) (down : List ℕ) → services q ≡ [] → answer q graph graphs down ≡ answer_alone q graph
answered_alone q graph graphs down none =
    ap (λ (rows : List Bindings). form_answer q q.form (with_inline q.inline rows)) (rows_free (served graphs down) (served no_graphs []) q.group none graph 0 0)

-- ---- everybody is kept

every_kept : (n at : ℕ) → at < n → is_kept (replicate n true) at ≡ true
every_kept zero at low = absurd (omega (arith, low))
every_kept (suc n) zero low = refl
every_kept (suc n) (suc at) low = every_kept n at (omega (arith, low))

pub of_everybody : (es : List EndpointParts) (graphs : List (List Triple)) → length graphs ≡ length es → of_kept (everybody es) graphs ≡ graphs
of_everybody es graphs many = all_kept (everybody es) graphs (λ at low. every_kept (length es) at (omega (arith, low, many)))

-- ---- each address has a graph

abbrev pub graph_at : List EndpointParts → List (List Triple) → List ℕ → List Triple
graph_at [] graphs iri = []
graph_at (e ∷ es) [] iri = []
graph_at (e ∷ es) (graph ∷ graphs) iri = cond (bytes_eq e.iri iri) graph (graph_at es graphs iri)

serve_alike : (these others : List ℕ → List Triple) (es : List EndpointParts) (graphs : List (List Triple)) → AllByRecursion (λ (e : EndpointParts). others e.iri ≡ these e.iri) es → Serve these es graphs → Serve others es graphs
serve_alike these others [] graphs h k = tt
serve_alike these others (e ∷ es) [] h k = k
serve_alike these others (e ∷ es) (graph ∷ graphs) h k = (h.0 ∙ k.0, serve_alike these others es graphs h.1 k.1)

-- an address that is another has the graph that the rest gives it
apart : (e : EndpointParts) (graph : List Triple) (rest : List ℕ → List Triple) (es : List EndpointParts) → AllByRecursion (λ (x : EndpointParts). e.iri ≢ x.iri) es → AllByRecursion (λ (x : EndpointParts). cond (bytes_eq e.iri x.iri) graph (rest x.iri) ≡ rest x.iri) es
apart e graph rest [] h = tt
apart e graph rest (x ∷ es) h = (by (bytes_eq e.iri x.iri) refl, apart e graph rest es h.1)
  where
    by : (b : Bool) → bytes_eq e.iri x.iri ≡ b → cond b graph (rest x.iri) ≡ rest x.iri
    by true is = absurd (h.0 ((bytes_eq-Decides e.iri x.iri).0 is))
    by false is = refl

pub serves_each : (wires : List Seen) (es : List EndpointParts) (graphs : List (List Triple)) → AllPairs (λ (d e : EndpointParts). d.iri ≢ e.iri) es → TellAll wires es graphs → Serve (graph_at es graphs) es graphs
serves_each wires [] graphs h k = tt
serves_each wires (e ∷ es) [] h k = k
serves_each wires (e ∷ es) (graph ∷ graphs) h k =
    let Apart : EndpointParts → EndpointParts → Type 0 = λ d x. d.iri ≢ x.iri in
    let own : bytes_eq e.iri e.iri ≡ true = (bytes_eq-Decides e.iri e.iri).1 refl in
    let rest = serves_each wires es graphs (pairs_tail Apart e es h) k.1 in (
      ap (λ (b : Bool). cond b graph (graph_at es graphs e.iri)) own,
      serve_alike (graph_at es graphs) (graph_at (e ∷ es) (graph ∷ graphs)) es graphs (apart e graph (graph_at es graphs) es (recursion_from_All (Apart e) es (pairs_head Apart e es h))) rest,
    )
