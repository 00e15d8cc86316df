-- What the steps of `query` report is what the whole reports.
use Rattle.std.proofs.Common.{◌≡◌, ◌∙◌, ap, sym, subst, refl, ℕ, ◌≤◌, List, [], ◌++◌, Option, Some, None, Ok, Err, length, inl, inr, arith}
use Rattle.std.specs.Prelude.{IfSome, Result}
use Rattle.std.proofs.lemmas.List.Elements.{All-nil}
use Rattle.fx_outside.specs.Endpoints.{EndpointParts}
use Rattle.fx_outside.specs.Streams.{AppendsFront}
use Rattle.fx_terms.specs.declared.triples.Triple.{Triple}
use Rattle.fx_algebra.specs.declared.queries.Query.{Query}
use Rattle.fx_grammar.specs.Accepted.{Accepted}
use Rattle.fx_results.specs.Documents.{document}
use Rattle.fx_sources.specs.Registries.{IsRegistry, read_registry}
use Rattle.fx_sources.specs.Sources as source
use Rattle.fx_sources.specs.declared.errors.RegistryError.TheVariants as error
use Rattle.fx_traffic.specs.Gains.{TellAll, WiresSeen}
use Rattle.fx_wire.specs.Exchanges.{Seen}
use Rattle.fx_outcomes.specs.Mediation.{AreKnown}
use Rattle.fx_outcomes.specs.declared.federated.FedError.{FedError}
use Rattle.fx_outcomes.specs.declared.federated.FedError.TheVariants as fed
use Rattle.fx_outcomes.specs.declared.rounds.OutcomeInRounds.{OutcomeInRounds}
use Rattle.fx_rounds.specs.LeftOut.{left_in}
use Rattle.fx_rounds.proofs.AnsweredLemmas.{answers_rest_on_this}
use Rattle.fx_local.specs.Limits.{query_limit, registry_limit}
use Rattle.fx_local.specs.declared.refusals.QueryRefusal.{QueryRefusal}
use Rattle.fx_local.specs.declared.refusals.QueryRefusal.TheVariants as query
use Rattle.fx_local.specs.declared.refusals.RegistryRefusal.{RegistryRefusal}
use Rattle.fx_local.specs.declared.refusals.RegistryRefusal.TheVariants as registry
use Rattle.fx_local.specs.declared.statuses.Status.{Status}
use Rattle.fx_local.specs.declared.statuses.Status.TheVariants as status
use Rattle.fx_commands.specs.Asking.{IsRefusedBefore}
use Rattle.fx_commands.specs.FedRefusals.{IsGivenEnd, fed_line, fed_status_of}
use Rattle.fx_local.specs.Files.{FileRead, IsRegistryFile}
use Rattle.fx_lines.specs.MemberLines.{answer_lines}
use Rattle.fx_local.specs.LocalSteps.{GivesQuery, IsDocumentWritten, IsLineReported, query_line}
use Rattle.fx_commands.specs.MemberSteps.{IsAnswerCut, IsAnswerDone, IsAnswerReported, IsAnswered, IsWant}
use Rattle.fx_local.specs.RegistryFiles.{GivesRegistry, registry_line}
use Rattle.fx_commands.specs.Query.{IsOutcomeCut, IsOutcomeWritten, IsQueryCut, IsQueryDone, IsQueryReported, IsUnionAnswer, IsUnionAnswerOf, IsUnionDocument}
use Rattle.fx_local.specs.RefusalStatuses.{query_status, registry_status}
use Rattle.fx_local.specs.Sinks.{IsCutShort, SinkWritten, Wrote}

-- ---- files

pub registry_refused_before : (r q : FileRead) (e : RegistryRefusal) → GivesRegistry r (Err e) → IsRefusedBefore r q (registry_status e) (registry_line e r.name)
registry_refused_before r q registry.Fault h = inl (h, refl)
registry_refused_before r q registry.TooLong h = inl (h, refl)
registry_refused_before r q (registry.Refused (error.Bad n)) h = (error.Bad n, h, refl)
registry_refused_before r q (registry.Refused (error.TooMany n)) h = (error.TooMany n, h, refl)
registry_refused_before r q (registry.Refused (error.RepeatedName n)) h = (error.RepeatedName n, h, refl)
registry_refused_before r q (registry.Refused (error.RepeatedUrl n)) h = (error.RepeatedUrl n, h, refl)
registry_refused_before r q (registry.Refused error.Memory) h = refl
registry_refused_before r q registry.Memory h = refl

pub a_registry : (r : FileRead) (es : List EndpointParts) → GivesRegistry r (Ok es) → IsRegistryFile r
a_registry r es h = pick r.content h
  where
    pick : (o : Option (List ℕ)) → IfSome o (λ all. (length all ≤ registry_limit) × (read_registry all ≡ Ok es)) → IfSome o (λ all. (length all ≤ registry_limit) × ((es : List EndpointParts) × (read_registry all ≡ Ok es)))
    pick None h = tt
    pick (Some all) h = (h.0, (es, h.1))

pub query_refused_before : (r q : FileRead) (es : List EndpointParts) (e : QueryRefusal) → GivesRegistry r (Ok es) → GivesQuery q (Err e) → IsRefusedBefore r q (query_status e) (query_line e q.name)
query_refused_before r q es query.Fault g h = inr (a_registry r es g, h, refl)
query_refused_before r q es query.TooLong g h = inr (a_registry r es g, h, refl)
query_refused_before r q es (query.Refused kind at) g h = (a_registry r es g, (kind, at, h, refl))
query_refused_before r q es query.Memory g h = refl

-- what a query's file gave, seen from an earlier call on
pub query_since : (name : List ℕ) (earlier content : Option (List ℕ)) (first before after : ℕ) (x : Result Query QueryRefusal) → content ≡ earlier → first ≤ before → GivesQuery (record { name = name; content = content; before = before; after = after }) x → GivesQuery (record { name = name; content = earlier; before = first; after = after }) x
query_since name earlier content first before after x same kept h = subst (λ o. GivesQuery (record { name = name; content = o; before = first; after = after }) x) same (earlier_count x h)
  where
    earlier_count : (x : Result Query QueryRefusal) → GivesQuery (record { name = name; content = content; before = before; after = after }) x → GivesQuery (record { name = name; content = content; before = first; after = after }) x
    earlier_count (Ok asked) h = h
    earlier_count (Err query.Fault) h = omega arith
    earlier_count (Err query.TooLong) h = h
    earlier_count (Err (query.Refused kind at)) h = h
    earlier_count (Err query.Memory) h = h

-- memory ran out before anything was asked
pub want_before : (r q : FileRead) (s : Status) (text : List ℕ) → IsWant s text → IsRefusedBefore r q s text
want_before r q s text h = subst (λ (v : Status). IsRefusedBefore r q v text) (sym h.0) h.1

-- ---- what is written

-- what is so of a text that is written is what it follows from
pub wrote_so : (P Q : List ℕ → Type 0) → ((text : List ℕ) → P text → Q text) → (s : Status) (old new : List ℕ) → Wrote P s old new → Wrote Q s old new
wrote_so P Q f status.Done old new k = (k.0, f k.0 k.1, k.2)
wrote_so P Q f status.WriteFault old new k = (k.0, f k.0 k.1, k.2)
wrote_so P Q f status.NoMemory old new k = k
wrote_so P Q f status.Usage old new k = k
wrote_so P Q f status.GraphRefused old new k = k
wrote_so P Q f status.RegistryRefused old new k = k
wrote_so P Q f status.QueryRefused old new k = k
wrote_so P Q f status.UnknownService old new k = k
wrote_so P Q f status.DoorFault old new k = k
wrote_so P Q f status.ReadFault old new k = k
wrote_so P Q f status.FileTooLong old new k = k
wrote_so P Q f status.EndpointFault old new k = k
wrote_so P Q f status.BadReply old new k = k
wrote_so P Q f status.RequestTooLong old new k = k

-- a refusal by the members writes nothing
pub refused_wrote : (P : List ℕ → Type 0) (e : FedError) (s : Status) (held : List ℕ) → s ≡ fed_status_of e → Wrote P s held held
refused_wrote P e s held is = subst (λ (v : Status). Wrote P v held held) (sym is) (by_error e)
  where
    by_error : (e : FedError) → Wrote P (fed_status_of e) held held
    by_error (fed.Member name) = refl
    by_error (fed.Service iri) = refl
    by_error (fed.BadReply name bad) = refl
    by_error (fed.RequestTooLong name size) = refl
    by_error (fed.UnknownService iri) = refl
    by_error fed.Memory = refl

pub registry_wrote : (P : List ℕ → Type 0) (e : RegistryRefusal) (s : Status) (held : List ℕ) → s ≡ registry_status e → Wrote P s held held
registry_wrote P e s held is = subst (λ (v : Status). Wrote P v held held) (sym is) (by_error e)
  where
    by_error : (e : RegistryRefusal) → Wrote P (registry_status e) held held
    by_error registry.Fault = refl
    by_error registry.TooLong = refl
    by_error (registry.Refused (error.Bad n)) = refl
    by_error (registry.Refused (error.TooMany n)) = refl
    by_error (registry.Refused (error.RepeatedName n)) = refl
    by_error (registry.Refused (error.RepeatedUrl n)) = refl
    by_error (registry.Refused error.Memory) = refl
    by_error registry.Memory = refl

pub query_wrote : (P : List ℕ → Type 0) (e : QueryRefusal) (s : Status) (held : List ℕ) → s ≡ query_status e → Wrote P s held held
query_wrote P e s held is = subst (λ (v : Status). Wrote P v held held) (sym is) (by_error e)
  where
    by_error : (e : QueryRefusal) → Wrote P (query_status e) held held
    by_error query.Fault = refl
    by_error query.TooLong = refl
    by_error (query.Refused kind at) = refl
    by_error query.Memory = refl

-- a refusal by the members, by the registry or by the query isn't `Done` nor a failed write
pub fed_not_done : (e : FedError) → fed_status_of e ≡ status.Done → ⊥
fed_not_done (fed.Member name) h = cc
fed_not_done (fed.Service iri) h = cc
fed_not_done (fed.BadReply name bad) h = cc
fed_not_done (fed.RequestTooLong name size) h = cc
fed_not_done (fed.UnknownService iri) h = cc
fed_not_done fed.Memory h = cc

pub fed_not_cut : (e : FedError) → fed_status_of e ≡ status.WriteFault → ⊥
fed_not_cut (fed.Member name) h = cc
fed_not_cut (fed.Service iri) h = cc
fed_not_cut (fed.BadReply name bad) h = cc
fed_not_cut (fed.RequestTooLong name size) h = cc
fed_not_cut (fed.UnknownService iri) h = cc
fed_not_cut fed.Memory h = cc

pub registry_not_done : (e : RegistryRefusal) → registry_status e ≡ status.Done → ⊥
registry_not_done registry.Fault h = cc
registry_not_done registry.TooLong h = cc
registry_not_done (registry.Refused (error.Bad n)) h = cc
registry_not_done (registry.Refused (error.TooMany n)) h = cc
registry_not_done (registry.Refused (error.RepeatedName n)) h = cc
registry_not_done (registry.Refused (error.RepeatedUrl n)) h = cc
registry_not_done (registry.Refused error.Memory) h = cc
registry_not_done registry.Memory h = cc

pub registry_not_cut : (e : RegistryRefusal) → registry_status e ≡ status.WriteFault → ⊥
registry_not_cut registry.Fault h = cc
registry_not_cut registry.TooLong h = cc
registry_not_cut (registry.Refused (error.Bad n)) h = cc
registry_not_cut (registry.Refused (error.TooMany n)) h = cc
registry_not_cut (registry.Refused (error.RepeatedName n)) h = cc
registry_not_cut (registry.Refused (error.RepeatedUrl n)) h = cc
registry_not_cut (registry.Refused error.Memory) h = cc
registry_not_cut registry.Memory h = cc

pub query_not_cut : (e : QueryRefusal) → query_status e ≡ status.WriteFault → ⊥
query_not_cut query.Fault h = cc
query_not_cut query.TooLong h = cc
query_not_cut (query.Refused kind at) h = cc
query_not_cut query.Memory h = cc

pub query_not_done : (e : QueryRefusal) → query_status e ≡ status.Done → ⊥
query_not_done query.Fault h = cc
query_not_done query.TooLong h = cc
query_not_done (query.Refused kind at) h = cc
query_not_done query.Memory h = cc

-- ---- what is known where nothing is known of the cache

pub known_from_nothing : (wires : List Seen) (es : List EndpointParts) (graphs : List (List Triple)) → TellAll wires es graphs → AreKnown wires es [] graphs
known_from_nothing wires es graphs told = record { told = told; entries_are = All-nil (source.Tells graphs) }

none_given : (all : OutcomeInRounds) → Ok all ≡ Err fed.Memory → ⊥
none_given all h = cc

-- the answer that the members gave is that over the union of the graphs of those that are kept
pub union_document : (w : WiresSeen) (es : List EndpointParts) (asked : Query) (block : ℕ) (all : OutcomeInRounds) (text : List ℕ) → IsRegistry es → IsAnswered w es asked block (Ok all) → text ≡ document all.outcome.answer → IsUnionDocument w.before es asked text
union_document w es asked block all text registry (inl none) is = absurd (none_given all none.1)
union_document w es asked block all text registry (inr given) is =
    let rests = answers_rest_on_this w es asked given.entries block all given.alike registry given.in_rounds in (
      left_in all.abandoned,
      rests.0,
      all.outcome.down,
      rests.1.left_out,
      rests.1.down,
      λ graphs told services serve. is ∙ ap document (rests.2 graphs told services serve),
    )

-- ---- reports

-- what the members gave is written
pub given_reported : (w : WiresSeen) (es : List EndpointParts) (asked : Query) (block : ℕ) (all : OutcomeInRounds) (s : Status) (text : List ℕ) → IsRegistry es → IsAnswered w es asked block (Ok all) → IsGivenEnd (answer_lines es all) s text → IsAnswerReported w es asked block s text
given_reported w es asked block all s text registry (inl none) end = absurd (none_given all none.1)
given_reported w es asked block all s text registry (inr given) end = inr (Ok all, registry, given, end)

pub given_done : (w : WiresSeen) (es : List EndpointParts) (asked : Query) (block : ℕ) (all : OutcomeInRounds) (out err : SinkWritten) → IsRegistry es → IsAnswered w es asked block (Ok all) → IsOutcomeWritten es all out err → IsAnswerDone w es asked block out err
given_done w es asked block all out err registry (inl none) wrote = absurd (none_given all none.1)
given_done w es asked block all out err registry (inr given) wrote = (all, registry, given, wrote)

pub given_cut : (w : WiresSeen) (es : List EndpointParts) (asked : Query) (block : ℕ) (all : OutcomeInRounds) (out : SinkWritten) → IsRegistry es → IsAnswered w es asked block (Ok all) → IsOutcomeCut all out → IsAnswerCut w es asked block out
given_cut w es asked block all out registry (inl none) wrote = absurd (none_given all none.1)
given_cut w es asked block all out registry (inr given) wrote = (all, registry, given, wrote)

-- a refusal by the members is reported
pub refusal_reported : (w : WiresSeen) (es : List EndpointParts) (asked : Query) (block : ℕ) (e : FedError) (s : Status) → IsRegistry es → s ≡ fed_status_of e → IsAnswered w es asked block (Err e) → IsAnswerReported w es asked block s (fed_line e)
refusal_reported w es asked block e s registry is (inl none) = let same = the_want (Err e) e refl none.1 in inl (none.0, (is ∙ ap fed_status_of same, ap fed_line same))
  where
    the_want : (r : Result OutcomeInRounds FedError) (e : FedError) → r ≡ Err e → r ≡ Err fed.Memory → e ≡ fed.Memory
    the_want r e a b = cc
refusal_reported w es asked block e s registry is (inr given) = inr (Err e, registry, given, (is, refl))

-- ---- by the files

pub answer_reported : (w : WiresSeen) (r q : FileRead) (es : List EndpointParts) (asked : Query) (block : ℕ) (s : Status) (text : List ℕ) → GivesRegistry r (Ok es) → GivesQuery q (Ok asked) → IsAnswerReported w es asked block s text → IsQueryReported w r q block s text
answer_reported w r q es asked block s text g h (inl (none, want)) = inl (none, want_before r q s text want)
answer_reported w r q es asked block s text g h (inr (result, registry, federated, end)) = inr (result, record { endpoints = es; registered = g; registry = registry; asked = asked; accepted = h; federated = federated }, end)

pub query_done : (w : WiresSeen) (r q : FileRead) (es : List EndpointParts) (asked : Query) (block : ℕ) (out err : SinkWritten) → GivesRegistry r (Ok es) → GivesQuery q (Ok asked) → IsAnswerDone w es asked block out err → IsQueryDone w r q block out err
query_done w r q es asked block out err g h (all, registry, federated, wrote) = (all, record { endpoints = es; registered = g; registry = registry; asked = asked; accepted = h; federated = federated }, wrote)

pub query_cut : (w : WiresSeen) (r q : FileRead) (es : List EndpointParts) (asked : Query) (block : ℕ) (out : SinkWritten) → GivesRegistry r (Ok es) → GivesQuery q (Ok asked) → IsAnswerCut w es asked block out → IsQueryCut w r q block out
query_cut w r q es asked block out g h (all, registry, federated, wrote) = (all, record { endpoints = es; registered = g; registry = registry; asked = asked; accepted = h; federated = federated }, wrote)

pub a_union : (wires : List Seen) (r q : FileRead) (es : List EndpointParts) (asked : Query) (text : List ℕ) → GivesRegistry r (Ok es) → GivesQuery q (Ok asked) → IsUnionDocument wires es asked text → IsUnionAnswer wires r q text
a_union wires r q es asked text g h k = pick r.content g
  where
    both : (all : List ℕ) → read_registry all ≡ Ok es → (o : Option (List ℕ)) → IfSome o (λ query. (length query ≤ query_limit) × Accepted query asked) → IfSome o (λ query. IsUnionAnswerOf wires all query text)
    both all e None h = tt
    both all e (Some query) h = record { endpoints = es; registered = e; asked = asked; accepted = h.1; document_is = k }

    pick : (o : Option (List ℕ)) → IfSome o (λ all. (length all ≤ registry_limit) × (read_registry all ≡ Ok es)) → IfSome o (λ all. IfSome q.content (λ query. IsUnionAnswerOf wires all query text))
    pick None g = tt
    pick (Some all) g = both all g.1 q.content h

-- ---- a write that fails

-- what is so of a document is what it follows from
pub cut_so : (P Q : List ℕ → Type 0) → ((text : List ℕ) → P text → Q text) → (out err : SinkWritten) → IsCutShort P out err → IsCutShort Q out err
cut_so P Q f out err (inl k) = inl k
cut_so P Q f out err (inr k) = inr ((λ told. let w = k.0.0 told in (w.0, f w.0 w.1, w.2), k.0.1), k.1)

-- a front of the document was written
pub front_cut : (document : List ℕ) (s : Status) (old new : List ℕ) → s ≡ status.WriteFault → Wrote (λ text. text ≡ document) s old new → AppendsFront old new document
front_cut document s old new cut wrote =
    let w = subst (λ (v : Status). Wrote (λ text. text ≡ document) v old new) cut wrote in
    subst (AppendsFront old new) w.1 w.2

-- a document that is written, and then lines
pub lines_given : (lines : List ℕ) (s : Status) (text : List ℕ) → IsLineReported lines s text → IsGivenEnd lines s text
lines_given lines status.Done text k = k
lines_given lines status.WriteFault text k = k
lines_given lines status.NoMemory text k = absurd k
lines_given lines status.Usage text k = absurd k
lines_given lines status.RegistryRefused text k = absurd k
lines_given lines status.EndpointFault text k = absurd k
lines_given lines status.BadReply text k = absurd k
lines_given lines status.UnknownService text k = absurd k
lines_given lines status.RequestTooLong text k = absurd k
lines_given lines status.DoorFault text k = absurd k
lines_given lines status.GraphRefused text k = absurd k
lines_given lines status.QueryRefused text k = absurd k
lines_given lines status.ReadFault text k = absurd k
lines_given lines status.FileTooLong text k = absurd k

pub wrote_given : (document : List ℕ) (s : Status) (old new : List ℕ) → IsDocumentWritten document s old new → Wrote (λ t. t ≡ document) s old new
wrote_given document status.Done old new k = (document, refl, k)
wrote_given document status.WriteFault old new k = (document, refl, k)
wrote_given document status.NoMemory old new k = absurd k
wrote_given document status.Usage old new k = absurd k
wrote_given document status.RegistryRefused old new k = absurd k
wrote_given document status.EndpointFault old new k = absurd k
wrote_given document status.BadReply old new k = absurd k
wrote_given document status.UnknownService old new k = absurd k
wrote_given document status.RequestTooLong old new k = absurd k
wrote_given document status.DoorFault old new k = absurd k
wrote_given document status.GraphRefused old new k = absurd k
wrote_given document status.QueryRefused old new k = absurd k
wrote_given document status.ReadFault old new k = absurd k
wrote_given document status.FileTooLong old new k = absurd k

-- a report that is done is written whole
pub document_done : (document text : List ℕ) (s : Status) (old new : List ℕ) → text ≡ document → s ≡ status.Done → IsDocumentWritten text s old new → new ≡ old ++ document
document_done document text s old new is done k = let wrote : new ≡ old ++ text = subst (λ (v : Status). IsDocumentWritten text v old new) done k in wrote ∙ ap (λ (t : List ℕ). old ++ t) is

pub lines_done : (lines text : List ℕ) (old new : List ℕ) → text ≡ lines → new ≡ old ++ text → new ≡ old ++ lines
lines_done lines text old new is k = k ∙ ap (λ (t : List ℕ). old ++ t) is
