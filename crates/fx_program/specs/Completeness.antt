-- That a run comes to its end: where its files are accepted, each SERVICE is such as it can take, nothing fails and nothing is too long, it is done, or memory
-- ran out. A fault at an endpoint that queries can do without ends neither `query` nor `explain`, unless a SERVICE without SILENT names its address.
use Rattle.std.specs.Prelude.{◌≡◌, ◌≤◌, ◌⊎◌, ℕ, Bool, false, true, List, [], length, slice_get, All, Contains, IsTrue, None, Ok, Option, Some}
use Rattle.fx_terms.specs.declared.triples.Triple.{Triple}
use Rattle.fx_outside.specs.Doors.{DoorSeen}
use Rattle.fx_outside.specs.Endpoints.{EndpointParts}
use Rattle.fx_outside.specs.Faults.{HasRisen}
use Rattle.fx_algebra.specs.Cuts.{seeds, stations}
use Rattle.fx_algebra.specs.Graphs.{union}
use Rattle.fx_algebra.specs.Groups.{is_down}
use Rattle.fx_algebra.specs.Occurrences.{services}
use Rattle.fx_algebra.specs.Units.{is_kept, of_kept}
use Rattle.fx_algebra.specs.declared.queries.Query.{Query}
use Rattle.fx_grammar.specs.Accepted.{Accepted}
use Rattle.fx_http.specs.Requests.{request_of}
use Rattle.fx_keys.specs.declared.probes.Probe.{Probe}
use Rattle.fx_sources.specs.Probes.{missing}
use Rattle.fx_sources.specs.Registries.{read_registry}
use Rattle.fx_sources.specs.Sources.{ask_text}
use Rattle.fx_traffic.specs.Gains.{HaveGained, WiresSeen, faults_at}
use Rattle.fx_traffic.specs.Sent.{Sent}
use Rattle.fx_traffic.specs.Traffic.{AreStationsSent}
use Rattle.fx_wire.specs.Exchanges.{Exchange}
use Rattle.fx_outcomes.specs.Calls.{occurrences}
use Rattle.fx_outcomes.specs.Mediation.{Serve}
use Rattle.fx_services.specs.Beside.{Occurrence}
use Rattle.fx_walks.specs.Unknown.{is_registered, unknown_of}
use Rattle.fx_local.specs.Limits.{graph_limit, query_limit, registry_limit}
use Rattle.fx_local.specs.declared.statuses.Status.{Status}
use Rattle.fx_local.specs.declared.statuses.Status.TheVariants as status
use Rattle.fx_words.specs.Commands.{Asked, over_file, over_members, planned, served, gated, generated}
use Rattle.fx_local.specs.Files.{FileRead, Holds}
use Rattle.fx_local.specs.GraphTexts.{IsGraphText}
use Rattle.fx_program.specs.Headline.{IsTold}
use Rattle.fx_local.specs.Services.{first_plain}
use Rattle.fx_rounds.specs.LeftOut.{IsUnmarked}
use Rattle.fx_local.specs.Sinks.{SinkWritten}

-- ---- nothing fails

abbrev pub IsReadWell : FileRead → Type 0
IsReadWell f = f.after ≡ f.before

abbrev pub IsWrittenWell : SinkWritten → Type 0
IsWrittenWell s = HasRisen s.before s.after → ⊥

-- queries can't do without the endpoint, or an occurrence of SERVICE without SILENT names its address
abbrev pub IsNeeded : Query → EndpointParts → Type 0
IsNeeded asked e = IsUnmarked e ⊎ ((o : Occurrence) × Contains (occurrences asked) o × (o.silent ≡ false) × (o.iri ≡ e.iri))

-- the wires tell what was exchanged, and no fault was counted at the address of an endpoint that is needed so
abbrev pub AreWell : WiresSeen → List EndpointParts → Query → Type 0
AreWell w endpoints asked = IsTrue w.tells × All (λ e. IsNeeded asked e → faults_at w.after e.iri ≡ faults_at w.before e.iri) endpoints

-- ---- nothing is too long

-- no reply is longer than it may be
abbrev pub AreRepliesShort : WiresSeen → Type 0
AreRepliesShort w = (exchanges : List Exchange) → HaveGained w.before w.after exchanges → All (λ x. length x.reply ≤ 67108864) exchanges

-- nor is the ASK of a pattern of the query
abbrev pub AreAsksShort : List EndpointParts → Query → Type 0
AreAsksShort endpoints asked = All (λ (p : Probe). length (ask_text p.key.pattern) ≤ 67108864) (missing asked (length endpoints) [])

-- the marks keep each endpoint that queries can't do without
abbrev pub KeepRequired : List EndpointParts → List Bool → Type 0
KeepRequired endpoints kept = (at : ℕ) (e : EndpointParts) → slice_get endpoints at ≡ Some e → IsUnmarked e → is_kept kept at ≡ true

-- Occurrences of SERVICE of these numbers may be down: all that name no endpoint, and of the others silent ones alone, each at the address of an endpoint that queries can do without. A
-- number that no occurrence has isn't down, so that it is settled which are where queries can't do without any of the endpoints.
pub record MayBeDown (endpoints : List EndpointParts) (asked : Query) (down : List ℕ) : Type 0 where
  pub unknown : (k : ℕ) (o : Occurrence) → slice_get (occurrences asked) k ≡ Some o → is_registered endpoints o.iri ≡ false → is_down down k ≡ true
  pub known : (k : ℕ) (o : Occurrence) → slice_get (occurrences asked) k ≡ Some o → is_registered endpoints o.iri ≡ true → is_down down k ≡ true
      → (o.silent ≡ true) × ((e : EndpointParts) × Contains endpoints e × (e.iri ≡ o.iri) × (e.optional ≡ true))
  pub no_other : (k : ℕ) → slice_get (occurrences asked) k ≡ None → is_down down k ≡ false

-- nor any text that may be sent for the query over the graphs of the endpoints that are kept, where each IRI has a graph, whichever occurrences are down of those that may be
abbrev pub AreTextsShort : List EndpointParts → List (List Triple) → (List ℕ → List Triple) → ℕ → Query → Type 0
AreTextsShort endpoints graphs graph_at block asked =
    (kept : List Bool) → KeepRequired endpoints kept → (down : List ℕ) → MayBeDown endpoints asked down
    → (texts : List Sent) → AreStationsSent endpoints (of_kept kept graphs) block (stations asked) (seeds asked (union (of_kept kept graphs)) graph_at down) texts
    → All (λ (x : Sent). (text : List ℕ) → x.request ≡ request_of x.at text → length text ≤ 67108864) texts

-- ---- each command

abbrev pub IsDoneOrWant : Status → Type 0
IsDoneOrWant s = (s ≡ status.Done) ⊎ (s ≡ status.NoMemory)

abbrev pub Completes : (List ℕ → FileRead) → WiresSeen → DoorSeen → DoorSeen → Option Asked → Status → SinkWritten → SinkWritten → Type 0
Completes read w door later None s out err = Unit {0}
Completes read w door later (Some (over_members r q workers block)) s out err =
    (endpoints : List EndpointParts) (asked : Query) (graphs : List (List Triple)) (graph_at : List ℕ → List Triple) → IsTold w (read r) (read q) endpoints asked graphs → Serve graph_at endpoints graphs
    → unknown_of endpoints asked ≡ None
    → IsReadWell (read r) → IsReadWell (read q) → AreWell w endpoints asked → IsWrittenWell out → IsWrittenWell err
    → AreRepliesShort w → AreAsksShort endpoints asked → AreTextsShort endpoints graphs graph_at block asked
    → IsDoneOrWant s
Completes read w door later (Some (planned r q)) s out err =
    (endpoints : List EndpointParts) (asked : Query) (graphs : List (List Triple)) → IsTold w (read r) (read q) endpoints asked graphs → unknown_of endpoints asked ≡ None
    → IsReadWell (read r) → IsReadWell (read q) → AreWell w endpoints asked → IsWrittenWell out → IsWrittenWell err
    → AreRepliesShort w → AreAsksShort endpoints asked
    → IsDoneOrWant s
Completes read w door later (Some (over_file g q)) s out err =
    (graph : List Triple) (asked : Query) → Holds (read g) graph_limit (λ content. IsGraphText g content graph) → Holds (read q) query_limit (λ content. Accepted content asked) → first_plain (services asked) ≡ None
    → IsReadWell (read g) → IsReadWell (read q) → IsWrittenWell out → IsWrittenWell err
    → IsDoneOrWant s
Completes read w door later (Some (served g address count)) s out err =
    (graph : List Triple) → Holds (read g) graph_limit (λ content. IsGraphText g content graph)
    → IsReadWell (read g) → later.faults ≡ door.faults → IsWrittenWell err
    → IsDoneOrWant s
Completes read w door later (Some (gated r address count workers block)) s out err =
    (endpoints : List EndpointParts) → Holds (read r) registry_limit (λ content. read_registry content ≡ Ok endpoints)
    → IsReadWell (read r) → later.faults ≡ door.faults → IsWrittenWell err
    → IsDoneOrWant s
Completes read w door later (Some (generated size)) s out err = IsWrittenWell out → IsDoneOrWant s
