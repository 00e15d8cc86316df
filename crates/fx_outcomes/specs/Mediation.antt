-- What a federation gives over several wires, and why it gives nothing.
use Rattle.std.specs.Prelude.{◌≡◌, ◌<◌, ◌+◌, ◌∷◌, ℕ, List, [], All, Contains, None, Some, Result, Err, length, slice_get}
use Rattle.fx_terms.specs.declared.triples.Triple.{Triple}
use Rattle.fx_outside.specs.Endpoints.{EndpointParts}
use Rattle.fx_algebra.specs.declared.queries.Query.{Query}
use Rattle.fx_flows.specs.declared.flows.FlowError.{FlowError}
use Rattle.fx_flows.specs.declared.flows.FlowError.TheVariants as flow
use Rattle.fx_pool.specs.declared.jobs.BadReply.{BadReply}
use Rattle.fx_keys.specs.declared.probes.Probe.{Probe}
use Rattle.fx_sources.specs.Probes.{Entry, missing, told}
use Rattle.fx_sources.specs.Sources as source
use Rattle.fx_traffic.specs.Gains.{TellAll, faults_at}
use Rattle.fx_wire.specs.Exchanges.{Seen}
use Rattle.fx_outcomes.specs.Asks.{IsLongAsk}
use Rattle.fx_outcomes.specs.Calls.{AreAllKnown, Call, failures_at, occurrences}
use Rattle.fx_walks.specs.Unknown.{unknown_of}
use Rattle.fx_outcomes.specs.declared.federated.FedError.{FedError}
use Rattle.fx_outcomes.specs.declared.federated.FedError.TheVariants as fed

-- ---- causes

-- the probe of an endpoint that the entries lack
pub record IsMissing (endpoints : List EndpointParts) (q : Query) (entries : List Entry) (e : EndpointParts) (p : Probe) : Type 0 where
  pub lacked : Contains (missing q (length endpoints) entries) p
  pub found : slice_get endpoints p.at ≡ Some e

-- the ASK of such a probe is longer than a text may be
abbrev pub HasLongAsk : List EndpointParts → Query → List Entry → EndpointParts → ℕ → Type 0
HasLongAsk endpoints q entries e size = (p : Probe) × IsMissing endpoints q entries e p × IsLongAsk p size

-- one of the endpoints has this name, and this cause
abbrev pub AtNamed : List EndpointParts → List ℕ → (EndpointParts → Type 0) → Type 0
AtNamed endpoints name P = (e : EndpointParts) × Contains endpoints e × (e.name ≡ name) × P e

-- Where an endpoint is named as failed it is not for an occurrence of SERVICE: all were invoked, of each it is known what it came to, and more faults were counted at its address than occurrences failed there.
abbrev pub FailedBeside : List Seen → List Seen → List EndpointParts → Query → List Call → FedError → Type 0
FailedBeside before after endpoints q calls (fed.Member name) = AreAllKnown calls (occurrences q) × AtNamed endpoints name (λ e. faults_at before e.iri + failures_at e.iri calls < faults_at after e.iri)
FailedBeside before after endpoints q calls (fed.Service iri) = Unit {0}
FailedBeside before after endpoints q calls (fed.BadReply name bad) = Unit {0}
FailedBeside before after endpoints q calls (fed.RequestTooLong name size) = Unit {0}
FailedBeside before after endpoints q calls (fed.UnknownService iri) = Unit {0}
FailedBeside before after endpoints q calls fed.Memory = Unit {0}

-- the endpoint of this number has the name
abbrev pub HasName : List EndpointParts → ℕ → List ℕ → Type 0
HasName endpoints at name = (e : EndpointParts) × (slice_get endpoints at ≡ Some e) × (e.name ≡ name)

-- the refusal, with the name of the endpoint in place of its number, unless memory ran out
abbrev pub IsNamed : List EndpointParts → FlowError → FedError → Type 0
IsNamed endpoints why fed.Memory = Unit {0}
IsNamed endpoints (flow.Member at) (fed.Member name) = HasName endpoints at name
IsNamed endpoints (flow.BadReply at bad) (fed.BadReply name other) = HasName endpoints at name × (other ≡ bad)
IsNamed endpoints (flow.RequestTooLong at size) (fed.RequestTooLong name other) = HasName endpoints at name × (other ≡ size)
IsNamed endpoints why e = ⊥

-- the number that a refusal names is that of an endpoint
abbrev pub IsPlaced : ℕ → FlowError → Type 0
IsPlaced count (flow.Member at) = at < count
IsPlaced count (flow.BadReply at bad) = at < count
IsPlaced count (flow.RequestTooLong at size) = at < count
IsPlaced count flow.Memory = Unit {0}

-- Each SERVICE without SILENT names an endpoint, unless the first that doesn't is told, or memory ran out.
abbrev pub KnowsServices : {X : Type 0} → List EndpointParts → Query → Result X FedError → Type 0
KnowsServices endpoints q (Err fed.Memory) = Unit {0}
KnowsServices endpoints q (Err (fed.UnknownService iri)) = unknown_of endpoints q ≡ Some iri
KnowsServices endpoints q result = unknown_of endpoints q ≡ None

-- the graphs of the endpoints are told, and the entries are true of them
pub record AreKnown (before : List Seen) (endpoints : List EndpointParts) (entries : List Entry) (graphs : List (List Triple)) : Type 0 where
  pub told : TellAll before endpoints graphs
  pub entries_are : All (source.Tells graphs) entries

-- ---- a federation

-- each IRI that is the address of an endpoint has its graph
abbrev pub Serve : (List ℕ → List Triple) → List EndpointParts → List (List Triple) → Type 0
Serve services [] graphs = Unit {0}
Serve services (e ∷ endpoints) [] = ⊥
Serve services (e ∷ endpoints) (graph ∷ graphs) = (services e.iri ≡ graph) × Serve services endpoints graphs
