-- That runs come to their ends, from what their commands report.
use Rattle.std.proofs.Common.{◌≡◌, ◌∙◌, ap, sym, subst, refl, ℕ, zero, suc, ◌≤◌, ◌<◌, ◌⊎◌, Bool, Result, List, [], ◌∷◌, All, Option, Some, None, Ok, Err, length, inl, inr, arith}
use Rattle.std.specs.Prelude.{◌++◌, Contains, slice_get}
use Rattle.std.proofs.lemmas.List.Elements.{All-contains, Contains-append_left}
use Rattle.std.proofs.lemmas.List.Sorted.{Contains-permutation}
use Rattle.fx_terms.specs.declared.triples.Triple.{Triple}
use Rattle.fx_outside.specs.Doors.{DoorSeen}
use Rattle.fx_outside.specs.Endpoints.{EndpointParts}
use Rattle.fx_algebra.specs.Occurrences.{services}
use Rattle.fx_algebra.specs.declared.queries.Query.{Query}
use Rattle.fx_grammar.specs.Accepted.{Accepted}
use Rattle.fx_grammar.specs.Refused.{IsRefused}
use Rattle.fx_grammar.specs.declared.refusals.SyntaxKind.{SyntaxKind}
use Rattle.fx_grammar.proofs.OneQuery.{never_both_holds, one_query_holds}
use Rattle.fx_keys.specs.declared.probes.Probe.{Probe}
use Rattle.fx_sources.specs.Registries.{read_registry}
use Rattle.fx_sources.specs.declared.errors.RegistryError.{RegistryError}
use Rattle.fx_traffic.specs.Gains.{Tell, TellAll, WiresSeen, faults_at}
use Rattle.fx_wire.specs.Exchanges.{Seen}
use Rattle.fx_algebra.specs.Solutions.{Bindings}
use Rattle.fx_outcomes.specs.Calls.{Call}
use Rattle.fx_walks.specs.Unknown.{unknown_of}
use Rattle.fx_services.specs.declared.noted.DownCause.TheVariants as cause
use Rattle.fx_outcomes.specs.declared.federated.FedError.{FedError}
use Rattle.fx_outcomes.specs.declared.federated.FedError.TheVariants as fed
use Rattle.fx_terms.proofs.SetLemmas.{Among, among_from, contains_from}
use Rattle.fx_algebra.specs.declared.units.Row.{Row}
use Rattle.fx_algebra.specs.declared.units.Unit as unit
use Rattle.fx_algebra.proofs.MemberLemmas.{among_flat_map, among_right}
use Rattle.fx_http.specs.Requests.{request_of}
use Rattle.fx_sources.specs.Probes.{Entry, missing}
use Rattle.fx_sources.specs.Sources.{ask_text}
use Rattle.fx_traffic.specs.Batches.{member_sent, text_for, text_sent, to_endpoint, unit_sent}
use Rattle.fx_traffic.specs.Gains.{HaveGained}
use Rattle.fx_traffic.specs.Sent.{Sent}
use Rattle.fx_wire.specs.Exchanges.{Exchange, exchanged}
use Rattle.fx_flows.specs.Flows.{IsLongBatch}
use Rattle.fx_flows.specs.RunFlows.{HasFlowCause}
use Rattle.fx_flows.specs.declared.flows.FlowError.{FlowError}
use Rattle.fx_flows.specs.declared.flows.FlowError.TheVariants as flow
use Rattle.fx_plan.specs.declared.parts.Part.{Part}
use Rattle.fx_walks.specs.GroupsAsked.{units_in}
use Rattle.fx_walks.specs.Tasks.{tasks_with}
use Rattle.fx_outcomes.specs.Asks.{HasProbeCause, IsLongAsk}
use Rattle.fx_outcomes.specs.InRounds.{FederatedInRounds, IsLast, IsRefusedAtAsks, IsUnasked, PlannedByAnswers, PlannedInRounds, WentInRounds, plan_over}
use Rattle.fx_pool.specs.declared.jobs.BadReply.{BadReply}
use Rattle.fx_outcomes.specs.Mediation.{IsNamed, Serve}
use Rattle.fx_outcomes.specs.Outcomes.{AllTell, HasOutcomeCause, Outcomed}
use Rattle.fx_outcomes.specs.RoundEnds.{LeavesOut}
use Rattle.fx_outcomes.specs.declared.federated.Outcome.{Outcome}
use Rattle.fx_outcomes.specs.declared.rounds.OutcomeInRounds.{OutcomeInRounds}
use Rattle.fx_outcomes.specs.declared.rounds.PlanInRounds.{PlanInRounds}
use Rattle.fx_outcomes.specs.Rounds.{IsRequired}
use Rattle.fx_rounds.specs.Refused.{IsFirstFailed}
use Rattle.fx_rounds.proofs.PlannedLemmas.{no_plan_service_fails, plan_members_failed}
use Rattle.fx_rounds.proofs.RefusedLemmas.{members_failed, services_failed}
use Rattle.fx_commands.specs.FedRefusals.{fed_status_of}
use Rattle.fx_local.specs.Limits.{graph_limit, query_limit, registry_limit}
use Rattle.fx_local.specs.declared.statuses.Status.{Status}
use Rattle.fx_local.specs.declared.statuses.Status.TheVariants as status
use Rattle.fx_commands.specs.Asking.{IsRefusedBefore, WasAsked, WasPlanned}
use Rattle.fx_program.specs.Completeness.{Completes, AreAsksShort, AreRepliesShort, AreTextsShort, AreWell, IsDoneOrWant, IsNeeded, IsReadWell, IsWrittenWell}
use Rattle.fx_words.specs.Commands.{Asked, over_file, over_members, planned, served, gated, generated}
use Rattle.fx_commands.specs.Explain.{IsExplainReported}
use Rattle.fx_commands.specs.FedRefusals.{IsGivenEnd}
use Rattle.fx_local.proofs.GraphTextLemmas.{never_refused}
use Rattle.fx_local.specs.GraphTexts.{IsGraphFault, IsGraphText, is_turtle}
use Rattle.fx_local.specs.declared.refusals.GraphFault.{GraphFault}
use Rattle.fx_local.specs.Files.{FileRead, Holds, IsNoGraph, IsNoQuery, IsNoRegistry, IsQueryThat, IsTooLong}
use Rattle.fx_program.specs.Headline.{IsTold}
use Rattle.fx_lines.specs.MemberLines.{answer_lines, plan_lines}
use Rattle.fx_local.specs.Local.{HasPlain, IsReported}
use Rattle.fx_serve.specs.Serving.{IsServeReported}
use Rattle.fx_commands.specs.Query.{IsQueryReported}
use Rattle.fx_local.specs.Serving.{IsMemberReported}
use Rattle.fx_local.specs.Services.{first_plain}
use Rattle.fx_local.specs.Sinks.{IsCutShort, SinkWritten}
use Rattle.fx_local.specs.Sinks as sink
use Rattle.fx_program.proofs.HarmlessLemmas.{AllIsWell, IsShort, all_is_well, not_needed, no_plain}
use Rattle.fx_program.proofs.HeadlineLemmas.{of_query, of_told, query_told, registry_told}
use Rattle.fx_program.proofs.LastRoundLemmas.{short_at_last, told_at_last}

-- ---- files that hold what they are to hold

within_limit : (f : FileRead) (limit : ℕ) (P : List ℕ → Type 0) → Holds f limit P → IsTooLong limit f → ⊥
within_limit f limit P h k = let long : limit < length h.0 = of_told (λ all. limit < length all) f.content h.0 h.1 k in let short : length h.0 ≤ limit = h.2 in omega (arith, long, short)

a_registry_is : (r : FileRead) (es : List EndpointParts) (e : RegistryError) → Holds r registry_limit (λ content. read_registry content ≡ Ok es) → IsNoRegistry r e → ⊥
a_registry_is r es e h k =
    let found = of_told (λ all. (length all ≤ registry_limit) × (read_registry all ≡ Err e)) r.content h.0 h.1 k in
    clash (read_registry h.0) h.3 found.1
  where
    clash : (o : _) → o ≡ Ok es → o ≡ Err e → ⊥
    clash o a b = cc

a_query_is : (q : FileRead) (asked : Query) (kind : SyntaxKind) (at : ℕ) → Holds q query_limit (λ content. Accepted content asked) → IsNoQuery q kind at → ⊥
a_query_is q asked kind at h k = never_both_holds h.0 kind at asked (of_told (λ all. (length all ≤ query_limit) × IsRefused all kind at) q.content h.0 h.1 k).1 h.3

a_graph_is : (g : FileRead) (graph : List Triple) (e : GraphFault) → Holds g graph_limit (λ content. IsGraphText g.name content graph) → IsNoGraph g e → ⊥
a_graph_is g graph e h k =
    let found = of_told (λ all. (length all ≤ graph_limit) × IsGraphFault g.name all e) g.content h.0 h.1 k in
    never_refused (is_turtle g.name) h.0 graph e h.3 found.1

the_query : (q : FileRead) (asked : Query) (P : Query → Type 0) → Holds q query_limit (λ content. Accepted content asked) → IsQueryThat q P → P asked
the_query q asked P h k =
    let found = of_told (λ all. (length all ≤ query_limit) × ((x : Query) × Accepted all x × P x)) q.content h.0 h.1 k in
    subst P (one_query_holds h.0 found.1.0 asked found.1.1 h.3) found.1.2

read_well : (f : FileRead) → IsReadWell f → f.before < f.after → ⊥
read_well f h k = let same : f.after ≡ f.before = h in let more : f.before < f.after = k in omega (arith, same, more)

-- what ends a run before anything is asked is want of memory
before_asking : (r q : FileRead) (es : List EndpointParts) (asked : Query) (s : Status) (text : List ℕ) → Holds r registry_limit (λ content. read_registry content ≡ Ok es) → Holds q query_limit (λ content. Accepted content asked) → IsReadWell r → IsReadWell q
    → IsRefusedBefore r q s text → IsDoneOrWant s
before_asking r q es asked status.NoMemory text h k a b c = inr refl
before_asking r q es asked status.RegistryRefused text h k a b c = absurd (a_registry_is r es c.0 h c.1)
before_asking r q es asked status.QueryRefused text h k a b c = absurd (a_query_is q asked c.1.0 c.1.1 k c.1.2)
before_asking r q es asked status.ReadFault text h k a b (inl c) = absurd (read_well r a c.0)
before_asking r q es asked status.ReadFault text h k a b (inr c) = absurd (read_well q b c.1)
before_asking r q es asked status.FileTooLong text h k a b (inl c) = absurd (within_limit r registry_limit _ h c.0)
before_asking r q es asked status.FileTooLong text h k a b (inr c) = absurd (within_limit q query_limit _ k c.1)
before_asking r q es asked status.Done text h k a b c = absurd c
before_asking r q es asked status.Usage text h k a b c = absurd c
before_asking r q es asked status.EndpointFault text h k a b c = absurd c
before_asking r q es asked status.BadReply text h k a b c = absurd c
before_asking r q es asked status.UnknownService text h k a b c = absurd c
before_asking r q es asked status.WriteFault text h k a b c = absurd c
before_asking r q es asked status.RequestTooLong text h k a b c = absurd c
before_asking r q es asked status.GraphRefused text h k a b c = absurd c
before_asking r q es asked status.DoorFault text h k a b c = absurd c

-- what ends a run where the members gave something is a failed write, or want of memory
given_ends : (lines : List ℕ) (s : Status) (text : List ℕ) → (s ≡ status.WriteFault → ⊥) → IsGivenEnd lines s text → IsDoneOrWant s
given_ends lines status.Done text uncut k = inl refl
given_ends lines status.NoMemory text uncut k = inr refl
given_ends lines status.WriteFault text uncut k = absurd (uncut refl)
given_ends lines status.Usage text uncut k = absurd k
given_ends lines status.QueryRefused text uncut k = absurd k
given_ends lines status.RegistryRefused text uncut k = absurd k
given_ends lines status.EndpointFault text uncut k = absurd k
given_ends lines status.BadReply text uncut k = absurd k
given_ends lines status.UnknownService text uncut k = absurd k
given_ends lines status.ReadFault text uncut k = absurd k
given_ends lines status.RequestTooLong text uncut k = absurd k
given_ends lines status.GraphRefused text uncut k = absurd k
given_ends lines status.DoorFault text uncut k = absurd k
given_ends lines status.FileTooLong text uncut k = absurd k

-- no write of a document or of the lines behind it failed
none_cut : (P : List ℕ → Type 0) (out err : SinkWritten) → IsWrittenWell out → IsWrittenWell err → IsCutShort P out err → ⊥
none_cut P out err well lines (inl c) = well c.0
none_cut P out err well lines (inr c) = lines c.1

-- ---- endpoints

-- the graph that is told of one of the endpoints
graph_told : (wires : List Seen) (es : List EndpointParts) (graphs : List (List Triple)) (at : ℕ) (e : EndpointParts) → TellAll wires es graphs → slice_get es at ≡ Some e → (g : List Triple) × Tell wires e.iri g
graph_told wires [] [] at e h k = cc
graph_told wires [] (g ∷ graphs) at e h k = absurd h
graph_told wires (x ∷ es) [] at e h k = absurd h
graph_told wires (x ∷ es) (g ∷ graphs) zero e h k = let same : x ≡ e = cc in (g, subst (λ (v : EndpointParts). Tell wires v.iri g) same h.0)
graph_told wires (x ∷ es) (g ∷ graphs) (suc at) e h k = graph_told wires es graphs at e h.1 k

-- no reply of these exchanges is longer than it may be
abbrev AreShort : List Exchange → Type 0
AreShort xs = (x : Exchange) → Contains xs x → length x.reply ≤ 67108864

all_short : (w : WiresSeen) (xs : List Exchange) → HaveGained w.before w.after xs → AreRepliesShort w → AreShort xs
all_short w xs gained short x among = All-contains (λ (y : Exchange). length y.reply ≤ 67108864) xs x (short xs gained) among

-- a reply that is longer than it may be isn't one of them
no_long_reply : (xs : List Exchange) (x : Exchange) → AreShort xs → Contains xs x → 67108864 < length x.reply → ⊥
no_long_reply xs x short among long = let fits : length x.reply ≤ 67108864 = short x among in omega (arith, long, fits)

-- an ASK that is longer than it may be isn't one of the query's
no_long_ask : (es : List EndpointParts) (asked : Query) (p : Probe) (size : ℕ) → AreAsksShort es asked → Contains (missing asked (length es) []) p → IsLongAsk p size → ⊥
no_long_ask es asked p size short among long =
    let fits : length (ask_text p.key.pattern) ≤ 67108864 = All-contains (λ (x : Probe). length (ask_text x.key.pattern) ≤ 67108864) (missing asked (length es) []) p short among in
    let same : size ≡ length (ask_text p.key.pattern) = long.0 in
    let more : 67108864 < size = long.1 in
    omega (arith, fits, same, more)

-- the text by which an endpoint is asked for a batch is among what is sent to all members of the unit
sent_among : (es : List EndpointParts) (u : unit.Unit) (rows : List Row) (at : ℕ) (e : EndpointParts) (text : List ℕ) → Contains u.members at → slice_get es at ≡ Some e → text_for e (record { unit = u; rows = rows }) ≡ Some text
    → Contains (unit_sent es u rows) (record { at = e; request = request_of e text })
sent_among es u rows at e text member found is =
    let sent : Sent = record { at = e; request = request_of e text } in
    let all : member_sent es u rows at ≡ sent ∷ [] = ap (to_endpoint u rows) found ∙ ap (text_sent e) is in
    contains_from (unit_sent es u rows) sent (among_flat_map (member_sent es u rows) at sent u.members (among_from u.members at member) (subst (λ (l : List Sent). Among sent l) (sym all) (inl refl)))

-- a batch whose text is longer than it may be isn't one of the query's
no_long_batch : (es : List EndpointParts) (texts : List Sent) (u : unit.Unit) (rows : List Row) (at : ℕ) (e : EndpointParts) (size : ℕ)
    → All IsShort texts
    → Contains u.members at → slice_get es at ≡ Some e → ((x : Sent) → Contains (unit_sent es u rows) x → Contains texts x) → IsLongBatch e (record { unit = u; rows = rows }) size → ⊥
no_long_batch es texts u rows at e size short member found allowed long =
    let x : Sent = record { at = e; request = request_of e long.text } in
    let among = allowed x (sent_among es u rows at e long.text member found long.of_batch) in
    let fits : length long.text ≤ 67108864 = All-contains IsShort texts x short among long.text refl in
    let same : size ≡ length long.text = long.size_is in
    let more : 67108864 < size = long.long in
    omega (arith, fits, same, more)

-- ---- refusals of ASKs and of batches

-- a bad reply, where the graphs are told, is longer than a reply may be
bad_at_ask : (before after : List Seen) (es : List EndpointParts) (graphs : List (List Triple)) (probes : List Probe) (xs : List Exchange) (name : List ℕ) (bad : BadReply) (why : FlowError) → TellAll before es graphs → AreShort xs
    → HasProbeCause before after es probes xs why → IsNamed es why (fed.BadReply name bad) → ⊥
bad_at_ask before after es graphs probes xs name bad (flow.BadReply at own) told short k named =
    let g = graph_told before es graphs k.probe.at k.endpoint told k.found in
    no_long_reply xs (exchanged k.endpoint own.request own.reply) short k.cause.exchanged_so (k.cause.long g.0 g.1).1
bad_at_ask before after es graphs probes xs name bad (flow.Member at) told short k named = named
bad_at_ask before after es graphs probes xs name bad (flow.RequestTooLong at size) told short k named = named
bad_at_ask before after es graphs probes xs name bad flow.Memory told short k named = named

bad_at_batch : (before after : List Seen) (es : List EndpointParts) (graphs : List (List Triple)) (us : List unit.Unit) (block : ℕ) (texts : List Sent) (xs : List Exchange) (name : List ℕ) (bad : BadReply) (why : FlowError) → TellAll before es graphs → AreShort xs
    → HasFlowCause before after es us block texts xs why → IsNamed es why (fed.BadReply name bad) → ⊥
bad_at_batch before after es graphs us block texts xs name bad (flow.BadReply at own) told short k named =
    let g = graph_told before es graphs k.at k.endpoint told k.found in
    no_long_reply xs (exchanged k.endpoint own.request own.reply) short k.cause.exchanged_so (k.cause.long g.0 g.1).1
bad_at_batch before after es graphs us block texts xs name bad (flow.Member at) told short k named = named
bad_at_batch before after es graphs us block texts xs name bad (flow.RequestTooLong at size) told short k named = named
bad_at_batch before after es graphs us block texts xs name bad flow.Memory told short k named = named

-- a text that is too long isn't one of the query's
long_at_ask : (before after : List Seen) (es : List EndpointParts) (asked : Query) (xs : List Exchange) (name : List ℕ) (size : ℕ) (why : FlowError) → AreAsksShort es asked → HasProbeCause before after es (missing asked (length es) []) xs why
    → IsNamed es why (fed.RequestTooLong name size) → ⊥
long_at_ask before after es asked xs name size (flow.RequestTooLong at own) short k named = no_long_ask es asked k.probe own short k.among k.cause
long_at_ask before after es asked xs name size (flow.Member at) short k named = named
long_at_ask before after es asked xs name size (flow.BadReply at bad) short k named = named
long_at_ask before after es asked xs name size flow.Memory short k named = named

long_at_batch : (before after : List Seen) (es : List EndpointParts) (us : List unit.Unit) (block : ℕ) (texts : List Sent) (xs : List Exchange) (name : List ℕ) (size : ℕ) (why : FlowError) → All IsShort texts → HasFlowCause before after es us block texts xs why
    → IsNamed es why (fed.RequestTooLong name size) → ⊥
long_at_batch before after es us block texts xs name size (flow.RequestTooLong at own) short k named = no_long_batch es texts k.unit k.batch k.at k.endpoint own short k.member k.found k.allowed k.cause
long_at_batch before after es us block texts xs name size (flow.Member at) short k named = named
long_at_batch before after es us block texts xs name size (flow.BadReply at bad) short k named = named
long_at_batch before after es us block texts xs name size flow.Memory short k named = named

-- ---- before the rounds

module _ (X : Type 0) (w : WiresSeen) (es : List EndpointParts) (asked : Query) (entries : List Entry) where
  abbrev refused : FedError → Result X FedError
  refused e = Err e

  same_refusal : (e d : FedError) → refused e ≡ refused d → e ≡ d
  same_refusal e d h = cc

  -- where nothing was asked no reply is bad, and no text too long
  unasked_bad : (name : List ℕ) (bad : BadReply) → IsUnasked w.before w.after [] entries (refused (fed.BadReply name bad)) → ⊥
  unasked_bad name bad n = by n.error (same_refusal (fed.BadReply name bad) n.error n.is) n.unasked
    where
      by : (e : FedError) → fed.BadReply name bad ≡ e → (e ≡ fed.Memory) ⊎ ((iri : List ℕ) × (e ≡ fed.UnknownService iri)) → ⊥
      by e same (inl lost) = cc
      by e same (inr unknown) = let is : e ≡ fed.UnknownService unknown.0 = unknown.1 in cc

  unasked_long : (name : List ℕ) (size : ℕ) → IsUnasked w.before w.after [] entries (refused (fed.RequestTooLong name size)) → ⊥
  unasked_long name size n = by n.error (same_refusal (fed.RequestTooLong name size) n.error n.is) n.unasked
    where
      by : (e : FedError) → fed.RequestTooLong name size ≡ e → (e ≡ fed.Memory) ⊎ ((iri : List ℕ) × (e ≡ fed.UnknownService iri)) → ⊥
      by e same (inl lost) = cc
      by e same (inr unknown) = let is : e ≡ fed.UnknownService unknown.0 = unknown.1 in cc

  -- where an ASK was refused neither is so
  bad_at_asks : (graphs : List (List Triple)) (name : List ℕ) (bad : BadReply) → TellAll w.before es graphs → AreWell w es asked → AreRepliesShort w → IsRefusedAtAsks w.tells w.alone w.before w.after es asked [] entries (refused (fed.BadReply name bad)) → ⊥
  bad_at_asks graphs name bad told well replies h =
      bad_at_ask w.before w.after es graphs (missing asked (length es) []) h.asking.exchanges name bad h.why told (all_short w h.asking.exchanges (h.asking.gained well.0) replies) h.asking.cause
      (subst (IsNamed es h.why) (sym (same_refusal (fed.BadReply name bad) h.error h.is)) h.named)

  long_at_asks : (name : List ℕ) (size : ℕ) → AreAsksShort es asked → IsRefusedAtAsks w.tells w.alone w.before w.after es asked [] entries (refused (fed.RequestTooLong name size)) → ⊥
  long_at_asks name size short h =
      long_at_ask w.before w.after es asked h.asking.exchanges name size h.why short h.asking.cause (subst (IsNamed es h.why) (sym (same_refusal (fed.RequestTooLong name size) h.error h.is)) h.named)

no_unknown : (iri : List ℕ) → Some iri ≡ None → ⊥
no_unknown iri h = cc

-- ---- `query`

-- the last round was refused for the cause that is told
module _ (Untold : FlowError → Type 0) (tells alone : Bool) (u t : List Seen) (es : List EndpointParts) (q : Query) (plan : List Part) (block : ℕ) where
  bad_at_last : (name : List ℕ) (bad : BadReply) (ended : Result Outcome FedError) → (k : Outcomed (IsRequired es) Untold tells alone u t es q plan block ended) → IsLast ended (Err (fed.BadReply name bad))
      → HasOutcomeCause (IsRequired es) u t es plan k.found block k.calls k.texts k.of_runs (fed.BadReply name bad)
  bad_at_last name bad (Ok outcome) k same = absurd same
  bad_at_last name bad (Err e) k same = subst (HasOutcomeCause (IsRequired es) u t es plan k.found block k.calls k.texts k.of_runs) (sym same) k.cause

  long_at_last : (name : List ℕ) (size : ℕ) (ended : Result Outcome FedError) → (k : Outcomed (IsRequired es) Untold tells alone u t es q plan block ended) → IsLast ended (Err (fed.RequestTooLong name size))
      → HasOutcomeCause (IsRequired es) u t es plan k.found block k.calls k.texts k.of_runs (fed.RequestTooLong name size)
  long_at_last name size (Ok outcome) k same = absurd same
  long_at_last name size (Err e) k same = subst (HasOutcomeCause (IsRequired es) u t es plan k.found block k.calls k.texts k.of_runs) (sym same) k.cause

-- it has none of them
module _ (Told : FlowError → Type 0) (before after : List Seen) (es : List EndpointParts) (plan : List Part) (found : List (List Bindings)) (block : ℕ) (calls : List Call) (texts : List Sent) (xs : List Exchange) (well : AllIsWell es calls texts) where
  no_bad_reply : (graphs : List (List Triple)) (name : List ℕ) (bad : BadReply) → TellAll before es graphs → AreShort xs → HasOutcomeCause Told before after es plan found block calls texts xs (fed.BadReply name bad) → ⊥
  no_bad_reply graphs name bad told short (inl b) = bad_at_batch before after es graphs (units_in (tasks_with plan found)) block texts xs name bad b.0 told short b.1 b.2
  no_bad_reply graphs name bad told short (inr r) = no_plain es calls (cause.Bad bad) r.0.iri (λ iri is. is) well.each_harmless r.3

  no_long_text : (name : List ℕ) (size : ℕ) → HasOutcomeCause Told before after es plan found block calls texts xs (fed.RequestTooLong name size) → ⊥
  no_long_text name size (inl b) = long_at_batch before after es (units_in (tasks_with plan found)) block texts xs name size b.0 well.texts_short b.1 b.2
  no_long_text name size (inr r) = no_plain es calls (cause.TooLong size) r.0.iri (λ iri is. is) well.each_harmless r.3

module _ (w : WiresSeen) (es : List EndpointParts) (asked : Query) (graphs : List (List Triple)) (graph_at : List ℕ → List Triple) (entries : List Entry) (block : ℕ) (alike : AllTell w.tells w.before) (are_told : TellAll w.before es graphs) (serve : Serve graph_at es graphs)
    (well : AreWell w es asked) (replies : AreRepliesShort w) (asks : AreAsksShort es asked) (texts : AreTextsShort es graphs graph_at block asked) where
  abbrev Ended : FedError → Result OutcomeInRounds FedError
  Ended e = Err e

  no_bad : (name : List ℕ) (bad : BadReply)
      → IsUnasked w.before w.after [] entries (Ended (fed.BadReply name bad)) ⊎ (IsRefusedAtAsks w.tells w.alone w.before w.after es asked [] entries (Ended (fed.BadReply name bad)) ⊎ WentInRounds w.tells w.alone w.before w.after es asked [] entries block (Ended (fed.BadReply name bad))) → ⊥
  no_bad name bad (inl n) = unasked_bad OutcomeInRounds w es asked entries name bad n
  no_bad name bad (inr (inl h)) = bad_at_asks OutcomeInRounds w es asked entries graphs name bad are_told well replies h
  no_bad name bad (inr (inr it)) =
      let r = Ended (fed.BadReply name bad) in
      let last = it.went.last in
      let plan = plan_over es asked [] it.answers it.went.last_kept in
      let all = all_is_well w es asked graphs graph_at entries block r alike are_told serve it well replies texts in
      let short : AreShort last.of_runs = λ x among.
      short_at_last w es asked entries block r alike it well replies x (Contains-permutation (last.of_runs ++ last.of_calls) last.exchanges x last.parted (Contains-append_left last.of_runs last.of_calls x among)) in
      no_bad_reply (IsRequired es) it.went.between w.after es plan last.found block last.calls last.texts last.of_runs all graphs name bad (told_at_last w es asked entries block r alike it graphs are_told) short
      (bad_at_last (LeavesOut es) w.tells w.alone it.went.between w.after es asked plan block name bad it.went.ended last it.told)

  no_long : (name : List ℕ) (size : ℕ)
      → IsUnasked w.before w.after [] entries (Ended (fed.RequestTooLong name size)) ⊎ (IsRefusedAtAsks w.tells w.alone w.before w.after es asked [] entries (Ended (fed.RequestTooLong name size)) ⊎ WentInRounds w.tells w.alone w.before w.after es asked [] entries block (Ended (fed.RequestTooLong name size))) → ⊥
  no_long name size (inl n) = unasked_long OutcomeInRounds w es asked entries name size n
  no_long name size (inr (inl h)) = long_at_asks OutcomeInRounds w es asked entries name size asks h
  no_long name size (inr (inr it)) =
      let r = Ended (fed.RequestTooLong name size) in
      let last = it.went.last in
      let plan = plan_over es asked [] it.answers it.went.last_kept in
      let all = all_is_well w es asked graphs graph_at entries block r alike are_told serve it well replies texts in
      no_long_text (IsRequired es) it.went.between w.after es plan last.found block last.calls last.texts last.of_runs all name size
      (long_at_last (LeavesOut es) w.tells w.alone it.went.between w.after es asked plan block name size it.went.ended last it.told)

  -- the endpoint of an occurrence without SILENT that failed is needed
  plain_is_needed : (iri : List ℕ) (e : EndpointParts) → IsFirstFailed w es asked iri → e.iri ≡ iri → IsNeeded asked e
  plain_is_needed iri e k at =
      let c = k.first.refused in
      let its : Contains k.calls c = contains_from k.calls c (subst (Among c) (sym k.first.are) (among_right c k.first.before (c ∷ k.first.behind) (inl refl))) in
      inr (c.of, of_query asked k.calls c (inr k.all_called) its, k.first.plain, k.first.at ∙ sym at)

  -- the cause of a refusal by the members is one that there isn't
  query_refused : (e : FedError) (s : Status) → s ≡ fed_status_of e → unknown_of es asked ≡ None → FederatedInRounds w.tells w.alone w.before w.after es asked [] entries block (Err e) → IsDoneOrWant s
  query_refused (fed.Member name) s is known given =
      let k = members_failed w es asked entries block name given in
      absurd (not_needed w es asked k.0 well k.1 k.3.1 (inl k.3.0))
  query_refused (fed.Service iri) s is known given =
      let k = services_failed w es asked entries block iri alike given in
      let e = k.0.0.0 in
      absurd (not_needed w es asked e well k.0.0.1 (subst (λ (a : List ℕ). faults_at w.before a < faults_at w.after a) (sym k.0.0.2) k.0.1) (plain_is_needed iri e k.1 k.0.0.2))
  query_refused (fed.BadReply name bad) s is known given = absurd (no_bad name bad given.went)
  query_refused (fed.RequestTooLong name size) s is known given = absurd (no_long name size given.went)
  query_refused (fed.UnknownService iri) s is known given = absurd (no_unknown iri (sym given.known ∙ known))
  query_refused fed.Memory s is known given = inr is

query_asked : (w : WiresSeen) (es others : List EndpointParts) (asked other : Query) (graphs : List (List Triple)) (graph_at : List ℕ → List Triple) (block : ℕ) (e : FedError) (s : Status) → others ≡ es → other ≡ asked → s ≡ fed_status_of e → unknown_of es asked ≡ None
    → TellAll w.before es graphs → Serve graph_at es graphs → WasAsked w others other block (Err e) → AreWell w es asked → AreRepliesShort w → AreAsksShort es asked → AreTextsShort es graphs graph_at block asked → IsDoneOrWant s
query_asked w es others asked other graphs graph_at block e s a b is known are_told serve given well replies asks texts =
    let was = subst (λ (v : Query). WasAsked w es v block (Err e)) b (subst (λ (l : List EndpointParts). WasAsked w l other block (Err e)) a given) in
    query_refused w es asked graphs graph_at was.entries block was.alike are_told serve well replies asks texts e s is known was.in_rounds

pub query_completes : (w : WiresSeen) (r q : FileRead) (block : ℕ) (s : Status) (text : List ℕ) (out err : SinkWritten) (P : List ℕ → Type 0) → IsQueryReported w r q block s text → (s ≡ status.WriteFault → IsCutShort P out err)
    → (es : List EndpointParts) (asked : Query) (graphs : List (List Triple)) (graph_at : List ℕ → List Triple) → IsTold w r q es asked graphs → Serve graph_at es graphs → unknown_of es asked ≡ None
    → IsReadWell r → IsReadWell q → AreWell w es asked → IsWrittenWell out → IsWrittenWell err → AreRepliesShort w → AreAsksShort es asked → AreTextsShort es graphs graph_at block asked → IsDoneOrWant s
query_completes w r q block s text out err P (inl (none, before)) cut es asked graphs graph_at told serve known a b well written lines replies asks texts = before_asking r q es asked s text told.registry told.query a b before
query_completes w r q block s text out err P (inr (Ok all, federated, end)) cut es asked graphs graph_at told serve known a b well written lines replies asks texts =
    given_ends (answer_lines federated.endpoints all) s text (λ is. none_cut P out err written lines (cut is)) end
query_completes w r q block s text out err P (inr (Err e, federated, end)) cut es asked graphs graph_at told serve known a b well written lines replies asks texts =
    query_asked w es federated.endpoints asked federated.asked graphs graph_at block e s (registry_told r es federated.endpoints told.registry federated.registered) (query_told q asked federated.asked told.query federated.accepted)
    end.0 known told.graphs_are serve federated.federated well replies asks texts

-- ---- `explain`

module _ (w : WiresSeen) (es : List EndpointParts) (asked : Query) (graphs : List (List Triple)) (entries : List Entry) (told : TellAll w.before es graphs) (well : AreWell w es asked) (replies : AreRepliesShort w) (asks : AreAsksShort es asked) where
  abbrev PlanEnded : FedError → Result PlanInRounds FedError
  PlanEnded e = Err e

  not_memory : (name : List ℕ) (bad : BadReply) → fed.BadReply name bad ≡ fed.Memory → ⊥
  not_memory name bad h = cc

  long_not_memory : (name : List ℕ) (size : ℕ) → fed.RequestTooLong name size ≡ fed.Memory → ⊥
  long_not_memory name size h = cc

  no_bad_plan : (name : List ℕ) (bad : BadReply)
      → IsUnasked w.before w.after [] entries (PlanEnded (fed.BadReply name bad)) ⊎ (IsRefusedAtAsks w.tells w.alone w.before w.after es asked [] entries (PlanEnded (fed.BadReply name bad)) ⊎ PlannedByAnswers w.tells w.alone w.before w.after es asked [] entries (PlanEnded (fed.BadReply name bad))) → ⊥
  no_bad_plan name bad (inl n) = unasked_bad PlanInRounds w es asked entries name bad n
  no_bad_plan name bad (inr (inl h)) = bad_at_asks PlanInRounds w es asked entries graphs name bad told well replies h
  no_bad_plan name bad (inr (inr it)) = not_memory name bad it.lost

  no_long_plan : (name : List ℕ) (size : ℕ)
      → IsUnasked w.before w.after [] entries (PlanEnded (fed.RequestTooLong name size)) ⊎ (IsRefusedAtAsks w.tells w.alone w.before w.after es asked [] entries (PlanEnded (fed.RequestTooLong name size)) ⊎ PlannedByAnswers w.tells w.alone w.before w.after es asked [] entries (PlanEnded (fed.RequestTooLong name size))) → ⊥
  no_long_plan name size (inl n) = unasked_long PlanInRounds w es asked entries name size n
  no_long_plan name size (inr (inl h)) = long_at_asks PlanInRounds w es asked entries name size asks h
  no_long_plan name size (inr (inr it)) = long_not_memory name size it.lost

  plan_refused : (e : FedError) (s : Status) → s ≡ fed_status_of e → unknown_of es asked ≡ None → PlannedInRounds w.tells w.alone w.before w.after es asked [] entries (Err e) → IsDoneOrWant s
  plan_refused (fed.Member name) s is known given =
      let k = plan_members_failed w es asked entries name given in
      absurd (not_needed w es asked k.0 well k.1 k.3.1 (inl k.3.0))
  plan_refused (fed.Service iri) s is known given = absurd (no_plan_service_fails w es asked entries iri given)
  plan_refused (fed.BadReply name bad) s is known given = absurd (no_bad_plan name bad given.went)
  plan_refused (fed.RequestTooLong name size) s is known given = absurd (no_long_plan name size given.went)
  plan_refused (fed.UnknownService iri) s is known given = absurd (no_unknown iri (sym given.known ∙ known))
  plan_refused fed.Memory s is known given = inr is

plan_asked : (w : WiresSeen) (es others : List EndpointParts) (asked other : Query) (graphs : List (List Triple)) (e : FedError) (s : Status) → others ≡ es → other ≡ asked → s ≡ fed_status_of e → unknown_of es asked ≡ None → TellAll w.before es graphs
    → WasPlanned w others other (Err e) → AreWell w es asked → AreRepliesShort w → AreAsksShort es asked → IsDoneOrWant s
plan_asked w es others asked other graphs e s a b is known told given well replies asks =
    let was = subst (λ (v : Query). WasPlanned w es v (Err e)) b (subst (λ (l : List EndpointParts). WasPlanned w l other (Err e)) a given) in
    plan_refused w es asked graphs was.entries told well replies asks e s is known was.in_rounds

pub explain_completes : (w : WiresSeen) (r q : FileRead) (s : Status) (text : List ℕ) (out err : SinkWritten) (P : List ℕ → Type 0) → IsExplainReported w r q s text → (s ≡ status.WriteFault → IsCutShort P out err)
    → (es : List EndpointParts) (asked : Query) (graphs : List (List Triple)) → IsTold w r q es asked graphs → unknown_of es asked ≡ None
    → IsReadWell r → IsReadWell q → AreWell w es asked → IsWrittenWell out → IsWrittenWell err → AreRepliesShort w → AreAsksShort es asked → IsDoneOrWant s
explain_completes w r q s text out err P (inl (none, before)) cut es asked graphs told known a b well written lines replies asks = before_asking r q es asked s text told.registry told.query a b before
explain_completes w r q s text out err P (inr (Ok p, made, end)) cut es asked graphs told known a b well written lines replies asks =
    given_ends (plan_lines made.endpoints p) s text (λ is. none_cut P out err written lines (cut is)) end
explain_completes w r q s text out err P (inr (Err e, made, end)) cut es asked graphs told known a b well written lines replies asks =
    plan_asked w es made.endpoints asked made.asked graphs e s (registry_told r es made.endpoints told.registry made.registered) (query_told q asked made.asked told.query made.accepted)
    end.0 known told.graphs_are made.planned well replies asks

-- ---- `local`

pub local_completes : (g q : FileRead) (s : Status) (text : List ℕ) (out err : SinkWritten) (P : List ℕ → Type 0) → IsReported g q s text → (s ≡ status.WriteFault → IsCutShort P out err)
    → (graph : List Triple) (asked : Query) → Holds g graph_limit (λ content. IsGraphText g.name content graph) → Holds q query_limit (λ content. Accepted content asked) → first_plain (services asked) ≡ None
    → IsReadWell g → IsReadWell q → IsWrittenWell out → IsWrittenWell err → IsDoneOrWant s
local_completes g q status.Done text out err P reported cut graph asked h k silent a b well lines = inl refl
local_completes g q status.NoMemory text out err P reported cut graph asked h k silent a b well lines = inr refl
local_completes g q status.WriteFault text out err P reported cut graph asked h k silent a b well lines = absurd (none_cut P out err well lines (cut refl))
local_completes g q status.GraphRefused text out err P reported cut graph asked h k silent a b well lines = absurd (a_graph_is g graph reported.0 h reported.1)
local_completes g q status.QueryRefused text out err P reported cut graph asked h k silent a b well lines = absurd (a_query_is q asked reported.1.0 reported.1.1 k reported.1.2)
local_completes g q status.UnknownService text out err P reported cut graph asked h k silent a b well lines = absurd (clash reported.1.0 (sym (the_query q asked (HasPlain reported.1.0) k reported.1.1) ∙ silent))
  where
    clash : (iri : List ℕ) → Some iri ≡ None → ⊥
    clash iri h = cc
local_completes g q status.ReadFault text out err P (inl c) cut graph asked h k silent a b well lines = absurd (read_well g a c.0)
local_completes g q status.ReadFault text out err P (inr c) cut graph asked h k silent a b well lines = absurd (read_well q b c.1)
local_completes g q status.FileTooLong text out err P (inl c) cut graph asked h k silent a b well lines = absurd (within_limit g graph_limit _ h c.0)
local_completes g q status.FileTooLong text out err P (inr c) cut graph asked h k silent a b well lines = absurd (within_limit q query_limit _ k c.1)
local_completes g q status.Usage text out err P reported cut graph asked h k silent a b well lines = absurd reported
local_completes g q status.RegistryRefused text out err P reported cut graph asked h k silent a b well lines = absurd reported
local_completes g q status.EndpointFault text out err P reported cut graph asked h k silent a b well lines = absurd reported
local_completes g q status.BadReply text out err P reported cut graph asked h k silent a b well lines = absurd reported
local_completes g q status.RequestTooLong text out err P reported cut graph asked h k silent a b well lines = absurd reported
local_completes g q status.DoorFault text out err P reported cut graph asked h k silent a b well lines = absurd reported

-- ---- `member`

pub member_completes : (g : FileRead) (door later : DoorSeen) (address : List ℕ) (count : ℕ) (s : Status) (before text : List ℕ) (err : SinkWritten) → IsMemberReported g door later address count s before text → (s ≡ status.WriteFault → sink.HasFailed err)
    → (graph : List Triple) → Holds g graph_limit (λ content. IsGraphText g.name content graph) → IsReadWell g → later.faults ≡ door.faults → IsWrittenWell err → IsDoneOrWant s
member_completes g door later address count status.Done before text err reported cut graph h a same lines = inl refl
member_completes g door later address count status.NoMemory before text err reported cut graph h a same lines = inr refl
member_completes g door later address count status.WriteFault before text err reported cut graph h a same lines = absurd (lines (cut refl))
member_completes g door later address count status.GraphRefused before text err reported cut graph h a same lines = absurd (a_graph_is g graph reported.0 h reported.1)
member_completes g door later address count status.ReadFault before text err reported cut graph h a same lines = absurd (read_well g a reported.0)
member_completes g door later address count status.FileTooLong before text err reported cut graph h a same lines = absurd (within_limit g graph_limit _ h reported.0)
member_completes g door later address count status.DoorFault before text err reported cut graph h a same lines = let rose : door.faults < later.faults = reported.2.0 in let stayed : later.faults ≡ door.faults = same in absurd (omega (arith, rose, stayed))
member_completes g door later address count status.Usage before text err reported cut graph h a same lines = absurd reported.2
member_completes g door later address count status.QueryRefused before text err reported cut graph h a same lines = absurd reported.2
member_completes g door later address count status.RegistryRefused before text err reported cut graph h a same lines = absurd reported.2
member_completes g door later address count status.EndpointFault before text err reported cut graph h a same lines = absurd reported.2
member_completes g door later address count status.BadReply before text err reported cut graph h a same lines = absurd reported.2
member_completes g door later address count status.UnknownService before text err reported cut graph h a same lines = absurd reported.2
member_completes g door later address count status.RequestTooLong before text err reported cut graph h a same lines = absurd reported.2

-- ---- `serve`

pub serve_completes : (r : FileRead) (w : WiresSeen) (door later : DoorSeen) (address : List ℕ) (count block : ℕ) (s : Status) (before text : List ℕ) (err : SinkWritten) → IsServeReported r w door later address count block s before text → (s ≡ status.WriteFault → sink.HasFailed err)
    → (endpoints : List EndpointParts) → Holds r registry_limit (λ content. read_registry content ≡ Ok endpoints) → IsReadWell r → later.faults ≡ door.faults → IsWrittenWell err → IsDoneOrWant s
serve_completes r w door later address count block status.Done before text err reported cut endpoints h a same lines = inl refl
serve_completes r w door later address count block status.NoMemory before text err reported cut endpoints h a same lines = inr refl
serve_completes r w door later address count block status.WriteFault before text err reported cut endpoints h a same lines = absurd (lines (cut refl))
serve_completes r w door later address count block status.RegistryRefused before text err reported cut endpoints h a same lines = absurd (a_registry_is r endpoints reported.0 h reported.1)
serve_completes r w door later address count block status.ReadFault before text err reported cut endpoints h a same lines = absurd (read_well r a reported.0)
serve_completes r w door later address count block status.FileTooLong before text err reported cut endpoints h a same lines = absurd (within_limit r registry_limit _ h reported.0)
serve_completes r w door later address count block status.DoorFault before text err reported cut endpoints h a same lines =
    let rose : door.faults < later.faults = reported.reported.0 in
    let stayed : later.faults ≡ door.faults = same in absurd (omega (arith, rose, stayed))
serve_completes r w door later address count block status.Usage before text err reported cut endpoints h a same lines = absurd reported.reported
serve_completes r w door later address count block status.QueryRefused before text err reported cut endpoints h a same lines = absurd reported.reported
serve_completes r w door later address count block status.GraphRefused before text err reported cut endpoints h a same lines = absurd reported.reported
serve_completes r w door later address count block status.EndpointFault before text err reported cut endpoints h a same lines = absurd reported.reported
serve_completes r w door later address count block status.BadReply before text err reported cut endpoints h a same lines = absurd reported.reported
serve_completes r w door later address count block status.UnknownService before text err reported cut endpoints h a same lines = absurd reported.reported
serve_completes r w door later address count block status.RequestTooLong before text err reported cut endpoints h a same lines = absurd reported.reported

-- ---- `generate`

pub making_completes : (s : Status) (text : List ℕ) (out : SinkWritten) → IsGivenEnd [] s text → (s ≡ status.WriteFault → sink.HasFailed out) → IsWrittenWell out → IsDoneOrWant s
making_completes s text out end cut written = given_ends [] s text (λ is. written (cut is)) end

-- ---- by the command

pub want_completes : (read : List ℕ → FileRead) (w : WiresSeen) (door later : DoorSeen) (asked : Option Asked) (out err : SinkWritten) → Completes read w door later asked status.NoMemory out err
want_completes read w door later None out err = tt
want_completes read w door later (Some (over_members r q workers block)) out err = λ es asked graphs graph_at told serve known a b well written lines replies asks texts. inr refl
want_completes read w door later (Some (planned r q)) out err = λ es asked graphs told known a b well written lines replies asks. inr refl
want_completes read w door later (Some (over_file g q)) out err = λ graph asked h k silent a b well lines. inr refl
want_completes read w door later (Some (served g address count)) out err = λ graph h a same lines. inr refl
want_completes read w door later (Some (gated r address count workers block)) out err = λ endpoints h a same lines. inr refl
want_completes read w door later (Some (generated n)) out err = λ written. inr refl
