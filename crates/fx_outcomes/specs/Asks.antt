-- The ASKs of a query, over several wires.
use Rattle.std.specs.Prelude.{◌≡◌, ◌<◌, ℕ, Bool, List, Contains, Some, length, slice_get}
use Rattle.fx_terms.specs.declared.triples.Triple.{Triple}
use Rattle.fx_outside.specs.Endpoints.{EndpointParts}
use Rattle.fx_algebra.specs.declared.answers.Answer.TheVariants.{Truth}
use Rattle.fx_http.specs.Requests.{request_of}
use Rattle.fx_http.specs.declared.replies.ReplyError.TheVariants.{TooLong}
use Rattle.fx_keys.specs.declared.probes.Probe.{Probe}
use Rattle.fx_sources.specs.Sources.{ask_text}
use Rattle.fx_traffic.specs.Gains.{Tell, faults_at}
use Rattle.fx_traffic.specs.Sent.{Sent}
use Rattle.fx_wire.specs.Exchanges.{Exchange, Seen, exchanged}
use Rattle.fx_flows.specs.Flows.{Names}
use Rattle.fx_pool.specs.Reading.{an_ask, HasFault, HasResults}
use Rattle.fx_pool.specs.declared.faults.ReplyFault.TheVariants.{Http}
use Rattle.fx_flows.specs.declared.flows.FlowError.{FlowError}
use Rattle.fx_flows.specs.declared.flows.FlowError.TheVariants as flow
use Rattle.fx_pool.specs.declared.jobs.BadReply.{BadReply}
use Rattle.fx_pool.specs.declared.jobs.JobKind.TheVariants as kind

-- one of these exchanges answers a probe by a truth value: its request posts the ASK of the probe's key to the probe's endpoint
pub record IsAnsweredBy (endpoints : List EndpointParts) (xs : List Exchange) (answer : Probe × Bool) : Type 0 where
  pub exchange : Exchange
  pub among : Contains xs exchange
  pub found : slice_get endpoints answer.0.at ≡ Some exchange.at
  pub posts : exchange.request ≡ request_of exchange.at (ask_text answer.0.key.pattern)
  pub told : HasResults exchange.reply (Truth answer.1)

-- the exchange asks whether the key of one of these probes fits, and its reply tells a truth value, without a fault
pub record IsAskRead (probes : List Probe) (x : Exchange) : Type 0 where
  pub probe : Probe
  pub among : Contains probes probe
  pub posts : x.request ≡ request_of x.at (ask_text probe.key.pattern)
  pub truth : Bool
  pub tells : HasResults x.reply (Truth truth)

-- a reply to the ASK of a probe has this first fault, and is the reply of one of the exchanges; where the graph is told, the fault is that the
-- reply is too long
pub record IsBadAsk (tells : List Triple → Type 0) (e : EndpointParts) (p : Probe) (xs : List Exchange) (bad : BadReply) : Type 0 where
  pub of_kind : bad.kind ≡ kind.Ask
  pub posts : bad.request ≡ request_of e (ask_text p.key.pattern)
  pub exchanged_so : Contains xs (exchanged e bad.request bad.reply)
  pub fault : HasFault an_ask bad.reply bad.why
  pub long : (g : List Triple) → tells g → (bad.why ≡ Http TooLong) × (67108864 < length bad.reply)

-- the ASK of a probe is longer than a text may be
abbrev pub IsLongAsk : Probe → ℕ → Type 0
IsLongAsk p size = (size ≡ length (ask_text p.key.pattern)) × (67108864 < size)

-- why a probe has no answer, by whether the faults of its endpoint rose and which graph is told of it
abbrev pub IsAskCause : Type 0 → (List Triple → Type 0) → EndpointParts → Probe → List Exchange → FlowError → Type 0
IsAskCause rose tells e p xs (flow.Member at) = rose
IsAskCause rose tells e p xs (flow.BadReply at bad) = IsBadAsk tells e p xs bad
IsAskCause rose tells e p xs (flow.RequestTooLong at size) = IsLongAsk p size
IsAskCause rose tells e p xs flow.Memory = Unit {0}

-- why probes have no answers: the cause at the endpoint of one of them, which the refusal names
pub record IsProbeCause (before after : List Seen) (endpoints : List EndpointParts) (probes : List Probe) (xs : List Exchange) (e : FlowError) : Type 0 where
  pub probe : Probe
  pub among : Contains probes probe
  pub endpoint : EndpointParts
  pub found : slice_get endpoints probe.at ≡ Some endpoint
  pub named : Names probe.at e
  pub cause : IsAskCause (faults_at before endpoint.iri < faults_at after endpoint.iri) (Tell before endpoint.iri) endpoint probe xs e

-- want of memory has none
abbrev pub HasProbeCause : List Seen → List Seen → List EndpointParts → List Probe → List Exchange → FlowError → Type 0
HasProbeCause before after endpoints probes xs flow.Memory = Unit {0}
HasProbeCause before after endpoints probes xs e = IsProbeCause before after endpoints probes xs e

-- the ASK of one of these probes for an endpoint was wanted, and is among what is left
pub record HasAskLeft (endpoints : List EndpointParts) (probes : List Probe) (left : List Sent) (e : EndpointParts) : Type 0 where
  pub probe : Probe
  pub among : Contains probes probe
  pub found : slice_get endpoints probe.at ≡ Some e
  pub unsent : Contains left (record { at = e; request = request_of e (ask_text probe.key.pattern) })

-- where a refusal says that an exchange failed, the faults of its endpoint rose, and one of the ASKs for it is left
abbrev pub HasFailedAsk : List Seen → List Seen → List EndpointParts → List Probe → List Sent → FlowError → Type 0
HasFailedAsk before after endpoints probes left (flow.Member at) =
    (e : EndpointParts) × (slice_get endpoints at ≡ Some e) × (faults_at before e.iri < faults_at after e.iri) × HasAskLeft endpoints probes left e
HasFailedAsk before after endpoints probes left (flow.BadReply at bad) = Unit {0}
HasFailedAsk before after endpoints probes left (flow.RequestTooLong at size) = Unit {0}
HasFailedAsk before after endpoints probes left flow.Memory = Unit {0}
