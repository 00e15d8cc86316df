-- What the refusal of a query that was asked in rounds rests on, at the endpoint that it names.
use Rattle.std.specs.Prelude.{◌≡◌, ◌⊎◌, ◌<◌, ◌++◌, ℕ, Bool, true, false, List, [], Contains, Err, IsPermutation, IsTrue, Some, length, slice_get}
use Rattle.fx_terms.specs.declared.triples.Triple.{Triple}
use Rattle.fx_outside.specs.Endpoints.{EndpointParts}
use Rattle.fx_algebra.specs.Cuts.{seeds, stations}
use Rattle.fx_algebra.specs.Graphs.{union}
use Rattle.fx_algebra.specs.Scopes.{scope}
use Rattle.fx_algebra.specs.Units.{is_kept, of_kept}
use Rattle.fx_algebra.specs.declared.queries.Query.{Query}
use Rattle.fx_algebra.specs.declared.units.Row.{Row}
use Rattle.fx_algebra.specs.declared.units.Unit as unit
use Rattle.fx_http.specs.Requests.{request_of}
use Rattle.fx_http.specs.declared.replies.ReplyError.TheVariants.{TooLong}
use Rattle.fx_pool.specs.Reading.{HasFault, a_service}
use Rattle.fx_pool.specs.declared.faults.ReplyFault.{ReplyFault}
use Rattle.fx_pool.specs.declared.faults.ReplyFault.TheVariants.{Http}
use Rattle.fx_pool.specs.declared.jobs.BadReply.{BadReply}
use Rattle.fx_services.specs.Beside.{Occurrence}
use Rattle.fx_services.specs.ServicesAsked.{service_text}
use Rattle.fx_services.specs.declared.noted.DownCause.TheVariants as cause
use Rattle.fx_sources.specs.Probes.{Entry}
use Rattle.fx_sources.specs.Registries.{IsRegistry}
use Rattle.fx_traffic.specs.Batches.{IsSized, text_for}
use Rattle.fx_traffic.specs.Gains.{AreAfter, HaveGained, Tell, TellAll, WiresSeen}
use Rattle.fx_traffic.specs.Sent.{Sent}
use Rattle.fx_walks.specs.RunsSent.{AreRunsSent}
use Rattle.fx_wire.specs.Exchanges.{Exchange, Seen, exchanged}
use Rattle.fx_outcomes.specs.Calls.{AgreesWith, AreAllOrNone, AreCalls, Call, HasFirstRefused, occurrences}
use Rattle.fx_outcomes.specs.InRounds.{FederatedInRounds}
use Rattle.fx_outcomes.specs.Mediation.{AtNamed, HasLongAsk, Serve}
use Rattle.fx_outcomes.specs.Outcomes.{AllTell}
use Rattle.fx_outcomes.specs.declared.federated.FedError.{FedError}
use Rattle.fx_outcomes.specs.declared.federated.FedError.TheVariants as fed
use Rattle.fx_rounds.specs.Licences.{HasAskFault, HasBatchFault, IsPlannedFor}

-- ---- whom a refusal may name

-- an occurrence of SERVICE of the query without SILENT has this IRI
abbrev pub IsAskedPlainly : Query → List ℕ → Type 0
IsAskedPlainly q iri = (o : Occurrence) × Contains (occurrences q) o × (o.silent ≡ false) × (o.iri ≡ iri)

-- the registry doesn't mark the endpoint as optional, or such an occurrence has its address as its IRI
abbrev pub IsNeededFor : Query → EndpointParts → Type 0
IsNeededFor q e = (e.optional ≡ false) ⊎ IsAskedPlainly q e.iri

-- The refusal names an endpoint that the query can't do without: one that isn't marked, where it is named as a member that failed; one whose address such an occurrence has as its IRI, where the
-- refusal is that this occurrence's exchange failed; and one of the two for a bad reply, and for a text that is too long. Other refusals name none.
abbrev pub NamesNoOptional : List EndpointParts → Query → FedError → Type 0
NamesNoOptional endpoints q (fed.Member name) = AtNamed endpoints name (λ e. e.optional ≡ false)
NamesNoOptional endpoints q (fed.Service iri) = ((e : EndpointParts) × Contains endpoints e × (e.iri ≡ iri)) × IsAskedPlainly q iri
NamesNoOptional endpoints q (fed.BadReply name bad) = AtNamed endpoints name (IsNeededFor q)
NamesNoOptional endpoints q (fed.RequestTooLong name size) = AtNamed endpoints name (IsNeededFor q)
NamesNoOptional endpoints q (fed.UnknownService iri) = Unit {0}
NamesNoOptional endpoints q fed.Memory = Unit {0}

-- so it is of each refusal
abbrev pub RefusalsNameNoOptional : Type 0
RefusalsNameNoOptional = (w : WiresSeen) (endpoints : List EndpointParts) (asked : Query) (new : List Entry) (block : ℕ) (e : FedError)
    → FederatedInRounds w.tells w.alone w.before w.after endpoints asked [] new block (Err e) → NamesNoOptional endpoints asked e

-- ---- the occurrences of the last round

-- All occurrences of SERVICE of the query were invoked in the last round, or none was, and these came to what they did by their own exchanges alone, which are some of those that were made since.
pub record WereInvoked (w : WiresSeen) (endpoints : List EndpointParts) (q : Query) (calls : List Call) : Type 0 where
  pub called : AreAllOrNone calls (occurrences q)
  pub since : List Seen
  pub began : AreAfter w.before since
  pub exchanges : List Exchange
  pub gained : IsTrue w.tells → HaveGained since w.after exchanges
  pub own : List Exchange
  pub others : List Exchange
  pub parted : IsPermutation (others ++ own) exchanges
  pub come_to : AreCalls since endpoints calls own

-- ---- bad replies

-- The exchange asks the endpoint that an occurrence of SERVICE of the query without SILENT names for its group, and its reply has this first fault for the rows of that group.
pub record HasPlainFault (endpoints : List EndpointParts) (q : Query) (x : Exchange) (why : ReplyFault) : Type 0 where
  pub occurrence : Occurrence
  pub of_query : Contains (occurrences q) occurrence
  pub plain : occurrence.silent ≡ false
  pub endpoint : Contains endpoints x.at
  pub named : x.at.iri ≡ occurrence.iri
  pub posts : x.request ≡ request_of x.at (service_text occurrence.group)
  pub fault : HasFault (a_service (scope occurrence.group)) x.reply why

-- such an occurrence is the first in text order of the last round that was refused, for this reply
pub record IsPlainlyBad (w : WiresSeen) (endpoints : List EndpointParts) (q : Query) (e : EndpointParts) (bad : BadReply) : Type 0 where
  pub calls : List Call
  pub invoked : WereInvoked w endpoints q calls
  pub first : HasFirstRefused calls (cause.Bad bad) e.iri
  pub asked : HasPlainFault endpoints q (exchanged e bad.request bad.reply) bad.why
  pub same : asked.occurrence ≡ first.refused.of

-- An exchange of the call with the endpoint has this very request and reply, and what is told of the reply is its first fault for what was asked: for an ASK of one of the query's probes, or for a batch of
-- a unit of its patterns, and then the endpoint isn't marked as optional; or for the group of such an occurrence. Where the wires tell the graph of the endpoint's address, the fault is
-- that the reply is too long, and it is longer than a reply may be.
pub record IsOwnBadReply (w : WiresSeen) (endpoints : List EndpointParts) (q : Query) (e : EndpointParts) (bad : BadReply) : Type 0 where
  pub exchanges : List Exchange
  pub gained : IsTrue w.tells → HaveGained w.before w.after exchanges
  pub among : Contains exchanges (exchanged e bad.request bad.reply)
  pub asked : ((e.optional ≡ false) × (HasAskFault endpoints q (exchanged e bad.request bad.reply) bad.why ⊎ HasBatchFault endpoints q (exchanged e bad.request bad.reply) bad.why)) ⊎ IsPlainlyBad w endpoints q e bad
  pub long : (graph : List Triple) → Tell w.before e.iri graph → (bad.why ≡ Http TooLong) × (67108864 < length bad.reply)

-- so it is where a bad reply is told, at an endpoint that has the name
abbrev pub BadRepliesAreOwn : Type 0
BadRepliesAreOwn = (w : WiresSeen) (endpoints : List EndpointParts) (asked : Query) (new : List Entry) (block : ℕ) (name : List ℕ) (bad : BadReply)
    → AllTell w.tells w.before → IsRegistry endpoints → FederatedInRounds w.tells w.alone w.before w.after endpoints asked [] new block (Err (fed.BadReply name bad))
    → AtNamed endpoints name (λ e. IsOwnBadReply w endpoints asked e bad)

-- ---- texts that are too long

-- the marks keep each endpoint that isn't marked as optional
abbrev pub KeepAllRequired : List EndpointParts → List Bool → Type 0
KeepAllRequired endpoints kept = (at : ℕ) (e : EndpointParts) → slice_get endpoints at ≡ Some e → e.optional ≡ false → is_kept kept at ≡ true

-- So long is the text by which the endpoint is asked for a batch, of no more rows than so many, of a unit of the query's patterns. It is one of the texts that were wanted, and where the graphs of all endpoints are told these
-- are those that the query's runs send over the graphs of the members that are kept, whichever occurrences of SERVICE are down of those that didn't pass, or stand behind one that didn't. Each endpoint is kept that isn't
-- marked as optional.
pub record IsLongBatchOf (w : WiresSeen) (endpoints : List EndpointParts) (q : Query) (block : ℕ) (e : EndpointParts) (size : ℕ) : Type 0 where
  pub unit : unit.Unit
  pub of_query : IsPlannedFor q unit
  pub rows : List Row
  pub sized : IsSized block rows
  pub at : ℕ
  pub member : Contains unit.members at
  pub found : slice_get endpoints at ≡ Some e
  pub text : List ℕ
  pub of_batch : text_for e (record { unit = unit; rows = rows }) ≡ Some text
  pub size_is : size ≡ length text
  pub texts : List Sent
  pub among : Contains texts (record { at = e; request = request_of e text })
  pub kept : List Bool
  pub keep : KeepAllRequired endpoints kept
  pub calls : List Call
  pub invoked : WereInvoked w endpoints q calls
  pub runs : (graphs : List (List Triple)) (services : List ℕ → List Triple) → TellAll w.before endpoints graphs → Serve services endpoints graphs
      → (down : List ℕ) → AgreesWith down calls → AreRunsSent endpoints (of_kept kept graphs) block (stations q) (seeds q (union (of_kept kept graphs)) services down) texts

-- So long is the text of an occurrence of SERVICE of the query without SILENT that has the endpoint's address as its IRI, and is the first in text order of the last round that was refused.
pub record IsPlainlyLong (w : WiresSeen) (endpoints : List EndpointParts) (q : Query) (e : EndpointParts) (size : ℕ) : Type 0 where
  pub calls : List Call
  pub invoked : WereInvoked w endpoints q calls
  pub first : HasFirstRefused calls (cause.TooLong size) e.iri
  pub of_query : Contains (occurrences q) first.refused.of
  pub size_is : size ≡ length (service_text first.refused.of.group)

-- A text has more bytes than one may have, so many: the ASK of one of the query's probes for the endpoint, or such a batch for it, and then the endpoint isn't marked as optional; or that of such an occurrence.
pub record IsOwnLongRequest (w : WiresSeen) (endpoints : List EndpointParts) (q : Query) (block : ℕ) (e : EndpointParts) (size : ℕ) : Type 0 where
  pub long : 67108864 < size
  pub asked : ((e.optional ≡ false) × (HasLongAsk endpoints q [] e size ⊎ IsLongBatchOf w endpoints q block e size)) ⊎ IsPlainlyLong w endpoints q e size

-- so it is where a text is told as too long, at an endpoint that has the name
abbrev pub LongRequestsAreOwn : Type 0
LongRequestsAreOwn = (w : WiresSeen) (endpoints : List EndpointParts) (asked : Query) (new : List Entry) (block : ℕ) (name : List ℕ) (size : ℕ)
    → AllTell w.tells w.before → FederatedInRounds w.tells w.alone w.before w.after endpoints asked [] new block (Err (fed.RequestTooLong name size))
    → AtNamed endpoints name (λ e. IsOwnLongRequest w endpoints asked block e size)
