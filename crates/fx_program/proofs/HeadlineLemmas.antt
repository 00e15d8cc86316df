-- The theorem of `run` from what its commands report and write.
use Rattle.std.proofs.Common.{◌≡◌, ◌∙◌, ap, sym, subst, ℕ, ◌≤◌, ◌<◌, ◌⊎◌, false, List, [], ◌++◌, map, Option, Some, None, Ok, Err, length, inl, inr, arith, take, IsTrue, Result}
use Rattle.std.specs.Prelude.{Contains, IfSome}
use Rattle.std.proofs.lemmas.List.{take_all}
use Rattle.fx_terms.specs.declared.triples.Triple.{Triple}
use Rattle.fx_terms.proofs.SetLemmas.{among_from, contains_from}
use Rattle.fx_outside.specs.Endpoints.{EndpointParts}
use Rattle.fx_outside.specs.Streams.{AppendsFront}
use Rattle.fx_algebra.specs.Answers.{answer, no_graphs}
use Rattle.fx_algebra.specs.Occurrences.{services}
use Rattle.fx_algebra.specs.declared.answers.Answer.{Answer}
use Rattle.fx_algebra.specs.declared.queries.Query.{Query}
use Rattle.fx_algebra.proofs.MemberLemmas.{among_map}
use Rattle.fx_grammar.specs.Accepted.{Accepted}
use Rattle.fx_grammar.proofs.OneQuery.{one_query_holds}
use Rattle.fx_results.specs.Documents.{document}
use Rattle.fx_plan.specs.Explained.{explained}
use Rattle.fx_plan.specs.declared.parts.Part.{Part}
use Rattle.fx_sources.specs.Registries.{IsRegistry, read_registry}
use Rattle.fx_traffic.specs.Gains.{TellAll, WiresSeen, faults_at}
use Rattle.fx_outcomes.specs.Calls.{AreAllOrNone, Call, occurrences}
use Rattle.fx_services.specs.Beside.{Occurrence}
use Rattle.fx_outcomes.specs.Mediation.{Serve}
use Rattle.fx_outcomes.specs.declared.federated.FedError.{FedError}
use Rattle.fx_outcomes.specs.declared.federated.FedError.TheVariants as fed
use Rattle.fx_outcomes.specs.declared.rounds.OutcomeInRounds.{OutcomeInRounds}
use Rattle.fx_outcomes.specs.declared.rounds.PlanInRounds.{PlanInRounds}
use Rattle.fx_rounds.specs.Refused.{IsFirstFailed}
use Rattle.fx_rounds.proofs.AnsweredLemmas.{answers_rest_on_this}
use Rattle.fx_rounds.proofs.PlannedLemmas.{no_plan_service_fails, plan_members_failed, plans_rest_on_this}
use Rattle.fx_rounds.proofs.RefusedLemmas.{members_failed, services_failed}
use Rattle.fx_local.specs.Limits.{graph_limit, query_limit, registry_limit}
use Rattle.fx_local.specs.declared.statuses.Status.{Status}
use Rattle.fx_local.specs.declared.statuses.Status.TheVariants as status
use Rattle.fx_words.specs.Commands.{Asked, over_file, over_members, planned, served, gated, generated}
use Rattle.fx_commands.specs.Asking.{WasAsked, WasPlanned}
use Rattle.fx_commands.specs.Explain.{IsExplainCut, IsExplainDone, IsExplainReported}
use Rattle.fx_local.proofs.GraphTextLemmas.{one_graph}
use Rattle.fx_local.specs.GraphTexts.{IsGraphText, is_turtle}
use Rattle.fx_local.specs.Files.{FileRead, Holds, IsQueryOf, IsQueryThat, IsRegistryOf}
use Rattle.fx_commands.specs.FedRefusals.{IsGivenEnd}
use Rattle.fx_commands.specs.Generator.{summary}
use Rattle.fx_program.specs.Given.{Gives, Plans}
use Rattle.fx_program.specs.Headline.{AreWritten, Headline, IsFront, IsTold, NamesFailed}
use Rattle.fx_local.specs.Lines.{Gains}
use Rattle.fx_lines.specs.MemberLines.{answer_lines, member_failed, plan_lines, service_failed}
use Rattle.fx_local.specs.Local.{HasLines, IsWritten}
use Rattle.fx_commands.specs.Query.{IsQueryCut, IsQueryDone, IsQueryReported}
use Rattle.fx_local.specs.Services.{all_numbers, silent_lines}
use Rattle.fx_local.specs.Sinks.{SinkWritten, Wrote}
use Rattle.fx_program.specs.Runs.{WritesGiven}

-- ---- what is told

pub of_told : (P : List ℕ → Type 0) (o : Option (List ℕ)) (content : List ℕ) → o ≡ Some content → IfSome o P → P content
of_told P o content is h = subst (λ (v : Option (List ℕ)). IfSome v P) is h

pub same_registry : (all : List ℕ) (es others : List EndpointParts) → read_registry all ≡ Ok es → read_registry all ≡ Ok others → others ≡ es
same_registry all es others h k = cc

pub registry_told : (r : FileRead) (es others : List EndpointParts) → Holds r registry_limit (λ content. read_registry content ≡ Ok es) → IsRegistryOf r others → others ≡ es
registry_told r es others h k = same_registry h.0 es others h.3 (of_told (λ all. (length all ≤ registry_limit) × (read_registry all ≡ Ok others)) r.content h.0 h.1 k).1

pub query_told : (q : FileRead) (asked other : Query) → Holds q query_limit (λ content. Accepted content asked) → IsQueryOf q other → other ≡ asked
query_told q asked other h k = one_query_holds h.0 other asked (of_told (λ all. (length all ≤ query_limit) × Accepted all other) q.content h.0 h.1 k).1 h.3

nothing_more : (old new text : List ℕ) → AppendsFront old new text → text ≡ [] → new ≡ old ++ []
nothing_more old new text front is = front.1 ∙ ap (λ (t : List ℕ). old ++ take front.0 t) is ∙ ap (λ (t : List ℕ). old ++ t) (take_all front.0 [] (omega arith))

-- ---- `query`

-- an endpoint has the line of a refusal for an exchange that failed, and was refused when the endpoints were asked: one that mustn't be left out, or one of a SERVICE without SILENT
abbrev pub IsFailureLine : WiresSeen → List EndpointParts → Query → ℕ → EndpointParts → List ℕ → Type 0
IsFailureLine w es asked block e line =
    ((e.optional ≡ false) × WasAsked w es asked block (Err (fed.Member e.name)) × (line ≡ member_failed e.name))
    ⊎ (WasAsked w es asked block (Err (fed.Service e.iri)) × IsFirstFailed w es asked e.iri × (line ≡ service_failed e.iri))

-- the endpoints that were asked are those of the registry, and so is the query
asked_same : (w : WiresSeen) (es others : List EndpointParts) (asked other : Query) (block : ℕ) (result : Result OutcomeInRounds FedError) → others ≡ es → other ≡ asked → WasAsked w others other block result → WasAsked w es asked block result
asked_same w es others asked other block result a b was = subst (λ (v : Query). WasAsked w es v block result) b (subst (λ (l : List EndpointParts). WasAsked w l other block result) a was)

planned_same : (w : WiresSeen) (es others : List EndpointParts) (asked other : Query) (result : Result PlanInRounds FedError) → others ≡ es → other ≡ asked → WasPlanned w others other result → WasPlanned w es asked result
planned_same w es others asked other result a b was = subst (λ (v : Query). WasPlanned w es v result) b (subst (λ (l : List EndpointParts). WasPlanned w l other result) a was)

-- the endpoint that a refusal names, and its line
abbrev FailedAt : WiresSeen → List EndpointParts → (EndpointParts → List ℕ → Type 0) → List ℕ → Type 0
FailedAt w es IsLine text = (e : EndpointParts) × Contains es e × (faults_at w.before e.iri < faults_at w.after e.iri) × IsLine e text

-- an occurrence that was invoked is one of the query's
pub of_query : (asked : Query) (calls : List Call) (c : Call) → AreAllOrNone calls (occurrences asked) → Contains calls c → Contains (occurrences asked) c.of
of_query asked calls c (inl none) among = absurd (among_from [] c (subst (λ (l : List Call). Contains l c) none among))
of_query asked calls c (inr are) among = subst (λ (l : List Occurrence). Contains l c.of) are (contains_from (map (λ (x : Call). x.of) calls) c.of (among_map (λ (x : Call). x.of) c calls (among_from calls c among)))

failed_at : (w : WiresSeen) (es others : List EndpointParts) (asked other : Query) (iri address : List ℕ) → others ≡ es → other ≡ asked → address ≡ iri → IsFirstFailed w others other iri → IsFirstFailed w es asked address
failed_at w es others asked other iri address a b c first =
    subst (IsFirstFailed w es asked) (sym c) (subst (λ (v : Query). IsFirstFailed w es v iri) b (subst (λ (l : List EndpointParts). IsFirstFailed w l other iri) a first))

query_failed : (w : WiresSeen) (r q : FileRead) (block : ℕ) (text : List ℕ) (es : List EndpointParts) (asked : Query) → Holds r registry_limit (λ content. read_registry content ≡ Ok es) → Holds q query_limit (λ content. Accepted content asked)
    → IsQueryReported w r q block status.EndpointFault text → FailedAt w es (IsFailureLine w es asked block) text
query_failed w r q block text es asked h k (inl (none, before)) = absurd before
query_failed w r q block text es asked h k (inr (Ok all, federated, end)) = absurd end
query_failed w r q block text es asked h k (inr (Err (fed.Member name), federated, end)) =
    let was = federated.federated in
    let at = members_failed w federated.endpoints federated.asked was.entries block name was.in_rounds in
    let same = registry_told r es federated.endpoints h federated.registered in
    let here = asked_same w es federated.endpoints asked federated.asked block (Err (fed.Member name)) same (query_told q asked federated.asked k federated.accepted) was in (
      at.0,
      subst (λ (l : List EndpointParts). Contains l at.0) same at.1,
      at.3.1,
      inl (at.3.0, subst (λ (n : List ℕ). WasAsked w es asked block (Err (fed.Member n))) (sym at.2) here, end.1 ∙ ap member_failed (sym at.2)),
    )
query_failed w r q block text es asked h k (inr (Err (fed.Service iri), federated, end)) =
    let was = federated.federated in
    let failed = services_failed w federated.endpoints federated.asked was.entries block iri was.alike was.in_rounds in
    let its = failed.0.0 in
    let same = registry_told r es federated.endpoints h federated.registered in
    let alike = query_told q asked federated.asked k federated.accepted in
    let here = asked_same w es federated.endpoints asked federated.asked block (Err (fed.Service iri)) same alike was in (
      its.0,
      subst (λ (l : List EndpointParts). Contains l its.0) same its.1,
      subst (λ (a : List ℕ). faults_at w.before a < faults_at w.after a) (sym its.2) failed.0.1,
      inr (
        subst (λ (a : List ℕ). WasAsked w es asked block (Err (fed.Service a))) (sym its.2) here,
        failed_at w es federated.endpoints asked federated.asked iri its.0.iri same alike its.2 failed.1,
        end.1 ∙ ap service_failed (sym its.2),
      ),
    )
query_failed w r q block text es asked h k (inr (Err (fed.BadReply name bad), federated, end)) = absurd (other end.0)
  where
    other : status.EndpointFault ≡ status.BadReply → ⊥
    other h = cc
query_failed w r q block text es asked h k (inr (Err (fed.RequestTooLong name size), federated, end)) = absurd (other end.0)
  where
    other : status.EndpointFault ≡ status.RequestTooLong → ⊥
    other h = cc
query_failed w r q block text es asked h k (inr (Err (fed.UnknownService iri), federated, end)) = absurd (other end.0)
  where
    other : status.EndpointFault ≡ status.UnknownService → ⊥
    other h = cc
query_failed w r q block text es asked h k (inr (Err fed.Memory, federated, end)) = absurd (other end.0)
  where
    other : status.EndpointFault ≡ status.NoMemory → ⊥
    other h = cc

-- what is so of the document and the lines of what the members gave
module _ (w : WiresSeen) (graphs : List (List Triple)) (graph_at : List ℕ → List Triple) (block : ℕ) where
  answer_is : (es : List EndpointParts) (asked : Query) (all : OutcomeInRounds) (Is : List ℕ → List ℕ → Type 0) → TellAll w.before es graphs → Serve graph_at es graphs
      → IsRegistry es → WasAsked w es asked block (Ok all) → Is (document all.outcome.answer) (answer_lines es all) → Gives w es asked block graphs graph_at Is
  answer_is es asked all Is told serve registry was wrote =
      let rests = answers_rest_on_this w es asked was.entries block all was.alike registry was.in_rounds in
      (all, rests.0, was, rests.1, subst (λ (a : Answer). Is (document a) (answer_lines es all)) (rests.2 graphs told graph_at serve) wrote)

  query_answered : (es others : List EndpointParts) (asked other : Query) (all : OutcomeInRounds) (Is : List ℕ → List ℕ → Type 0) → others ≡ es → other ≡ asked → TellAll w.before es graphs → Serve graph_at es graphs
      → IsRegistry others → WasAsked w others other block (Ok all) → Is (document all.outcome.answer) (answer_lines others all) → Gives w es asked block graphs graph_at Is
  query_answered es others asked other all Is a b told serve registry was wrote =
      answer_is es asked all Is told serve (subst IsRegistry a registry) (asked_same w es others asked other block (Ok all) a b was)
      (subst (λ (l : List EndpointParts). Is (document all.outcome.answer) (answer_lines l all)) a wrote)

pub query_headline : (w : WiresSeen) (r q : FileRead) (block : ℕ) (s : Status) (text : List ℕ) (out err : SinkWritten) → IsQueryReported w r q block s text → (IsTrue err.tells → Gains err.old err.new err.before err.after text) → (s ≡ status.Done → IsQueryDone w r q block out err) → (s ≡ status.WriteFault → IsQueryCut w r q block out)
    → (es : List EndpointParts) (asked : Query) (graphs : List (List Triple)) (graph_at : List ℕ → List Triple) → IsTold w r q es asked graphs → Serve graph_at es graphs
    → (s ≡ status.Done → Gives w es asked block graphs graph_at (λ text lines. AreWritten text lines out err)) × (s ≡ status.WriteFault → Gives w es asked block graphs graph_at (λ text lines. IsFront text out))
    × NamesFailed w es (IsFailureLine w es asked block) s err
query_headline w r q block s text out err reported gains given cut es asked graphs graph_at told serve = (
  λ is.
      let done = given is in
      let fed = done.1 in
      query_answered w graphs graph_at block es fed.endpoints asked fed.asked done.0 (λ text lines. AreWritten text lines out err) (registry_told r es fed.endpoints told.registry fed.registered) (query_told q asked fed.asked told.query fed.accepted) told.graphs_are serve fed.registry
      fed.federated done.2,
  λ is.
      let short = cut is in
      let fed = short.1 in
      query_answered w graphs graph_at block es fed.endpoints asked fed.asked short.0 (λ text lines. IsFront text out) (registry_told r es fed.endpoints told.registry fed.registered) (query_told q asked fed.asked told.query fed.accepted) told.graphs_are serve fed.registry fed.federated
      short.2,
  λ failed.
      let at = query_failed w r q block text es asked told.registry told.query (subst (λ (v : Status). IsQueryReported w r q block v text) failed reported) in
      (at.0, text, at.1, at.2, at.3, gains),
)

-- ---- `explain`

-- an endpoint has the line of a refusal, and was refused when the endpoints were asked: one that mustn't be left out
abbrev IsMemberLine : WiresSeen → List EndpointParts → Query → EndpointParts → List ℕ → Type 0
IsMemberLine w es asked e line = (e.optional ≡ false) × WasPlanned w es asked (Err (fed.Member e.name)) × (line ≡ member_failed e.name)

explain_failed : (w : WiresSeen) (r q : FileRead) (text : List ℕ) (es : List EndpointParts) (asked : Query) → Holds r registry_limit (λ content. read_registry content ≡ Ok es) → Holds q query_limit (λ content. Accepted content asked)
    → IsExplainReported w r q status.EndpointFault text → FailedAt w es (IsMemberLine w es asked) text
explain_failed w r q text es asked h k (inl (none, before)) = absurd before
explain_failed w r q text es asked h k (inr (Ok p, made, end)) = absurd end
explain_failed w r q text es asked h k (inr (Err (fed.Member name), made, end)) =
    let was = made.planned in
    let at = plan_members_failed w made.endpoints made.asked was.entries name was.in_rounds in
    let same = registry_told r es made.endpoints h made.registered in
    let here = planned_same w es made.endpoints asked made.asked (Err (fed.Member name)) same (query_told q asked made.asked k made.accepted) was in (
      at.0,
      subst (λ (l : List EndpointParts). Contains l at.0) same at.1,
      at.3.1,
      (at.3.0, subst (λ (n : List ℕ). WasPlanned w es asked (Err (fed.Member n))) (sym at.2) here, end.1 ∙ ap member_failed (sym at.2)),
    )
explain_failed w r q text es asked h k (inr (Err (fed.Service iri), made, end)) = absurd (no_plan_service_fails w made.endpoints made.asked made.planned.entries iri made.planned.in_rounds)
explain_failed w r q text es asked h k (inr (Err (fed.BadReply name bad), made, end)) = absurd (other end.0)
  where
    other : status.EndpointFault ≡ status.BadReply → ⊥
    other h = cc
explain_failed w r q text es asked h k (inr (Err (fed.RequestTooLong name size), made, end)) = absurd (other end.0)
  where
    other : status.EndpointFault ≡ status.RequestTooLong → ⊥
    other h = cc
explain_failed w r q text es asked h k (inr (Err (fed.UnknownService iri), made, end)) = absurd (other end.0)
  where
    other : status.EndpointFault ≡ status.UnknownService → ⊥
    other h = cc
explain_failed w r q text es asked h k (inr (Err fed.Memory, made, end)) = absurd (other end.0)
  where
    other : status.EndpointFault ≡ status.NoMemory → ⊥
    other h = cc

-- what is so of the text of a plan and its lines
module _ (w : WiresSeen) (graphs : List (List Triple)) where
  plan_is : (es : List EndpointParts) (asked : Query) (p : PlanInRounds) (Is : List ℕ → List ℕ → Type 0) → TellAll w.before es graphs → IsRegistry es → WasPlanned w es asked (Ok p)
      → Is (explained p.parts.items es) (plan_lines es p) → Plans w es asked graphs Is
  plan_is es asked p Is told registry was wrote =
      let rests = plans_rest_on_this w es asked was.entries p registry was.in_rounds in
      (p, rests.0, was, rests.1, subst (λ (parts : List Part). Is (explained parts es) (plan_lines es p)) (rests.2 graphs told) wrote)

  plan_printed : (es others : List EndpointParts) (asked other : Query) (p : PlanInRounds) (Is : List ℕ → List ℕ → Type 0) → others ≡ es → other ≡ asked → TellAll w.before es graphs → IsRegistry others
      → WasPlanned w others other (Ok p) → Is (explained p.parts.items others) (plan_lines others p) → Plans w es asked graphs Is
  plan_printed es others asked other p Is a b told registry was wrote =
      plan_is es asked p Is told (subst IsRegistry a registry) (planned_same w es others asked other (Ok p) a b was) (subst (λ (l : List EndpointParts). Is (explained p.parts.items l) (plan_lines l p)) a wrote)

pub explain_headline : (w : WiresSeen) (r q : FileRead) (s : Status) (text : List ℕ) (out err : SinkWritten) → IsExplainReported w r q s text → (IsTrue err.tells → Gains err.old err.new err.before err.after text) → (s ≡ status.Done → IsExplainDone w r q out err) → (s ≡ status.WriteFault → IsExplainCut w r q out)
    → (es : List EndpointParts) (asked : Query) (graphs : List (List Triple)) → IsTold w r q es asked graphs
    → (s ≡ status.Done → Plans w es asked graphs (λ text lines. AreWritten text lines out err)) × (s ≡ status.WriteFault → Plans w es asked graphs (λ text lines. IsFront text out)) × NamesFailed w es (IsMemberLine w es asked) s err
explain_headline w r q s text out err reported gains given cut es asked graphs told = (
  λ is.
      let done = given is in
      let made = done.1 in
      plan_printed w graphs es made.endpoints asked made.asked done.0 (λ text lines. AreWritten text lines out err) (registry_told r es made.endpoints told.registry made.registered) (query_told q asked made.asked told.query made.accepted) told.graphs_are made.registry made.planned done.2,
  λ is.
      let short = cut is in
      let made = short.1 in
      plan_printed w graphs es made.endpoints asked made.asked short.0 (λ text lines. IsFront text out) (registry_told r es made.endpoints told.registry made.registered) (query_told q asked made.asked told.query made.accepted) told.graphs_are made.registry made.planned short.2,
  λ failed.
      let at = explain_failed w r q text es asked told.registry told.query (subst (λ (v : Status). IsExplainReported w r q v text) failed reported) in
      (at.0, text, at.1, at.2, at.3, gains),
)

-- ---- `local`

local_wrote : (g q : FileRead) (graph : List Triple) (asked : Query) (s : Status) (old new : List ℕ) → Holds g graph_limit (λ content. IsGraphText g.name content graph) → Holds q query_limit (λ content. Accepted content asked) → s ≡ status.Done → IsWritten g q s old new
    → new ≡ old ++ document (answer asked graph no_graphs (all_numbers (services asked)))
local_wrote g q graph asked s old new h k done written =
    let wrote = subst (λ (v : Status). IsWritten g q v old new) done written in
    let inner = of_told _ g.content h.0 h.1 wrote.1 in
    let answers = of_told _ q.content k.0 k.1 inner in
    let same_graph = one_graph (is_turtle g.name) h.0 answers.graph graph answers.read h.3 in
    let same_asked = one_query_holds k.0 answers.asked asked answers.accepted k.3 in
    wrote.2
    ∙ ap (λ (t : List ℕ). old ++ t) (
    answers.document_is
    ∙ ap (λ (v : Query). document (answer v answers.graph no_graphs (all_numbers (services v)))) same_asked
    ∙ ap (λ (v : List Triple). document (answer asked v no_graphs (all_numbers (services asked)))) same_graph)

local_lines : (q : FileRead) (asked : Query) (lines : List ℕ) → Holds q query_limit (λ content. Accepted content asked) → IsQueryThat q (HasLines lines) → lines ≡ silent_lines (services asked)
local_lines q asked lines k h =
    let found = of_told _ q.content k.0 k.1 h in
    found.1.2.1 ∙ ap (λ (v : Query). silent_lines (services v)) (one_query_holds k.0 found.1.0 asked found.1.1 k.3)

pub local_headline : (g q : FileRead) (s : Status) (out err : SinkWritten) → (IsTrue out.tells → IsWritten g q s out.old out.new) → (s ≡ status.Done → IsTrue err.tells → (lines : List ℕ) × IsQueryThat q (HasLines lines) × (err.new ≡ err.old ++ lines))
    → (graph : List Triple) (asked : Query) → Holds g graph_limit (λ content. IsGraphText g.name content graph) → Holds q query_limit (λ content. Accepted content asked)
    → s ≡ status.Done → AreWritten (document (answer asked graph no_graphs (all_numbers (services asked)))) (silent_lines (services asked)) out err
local_headline g q s out err written lines graph asked h k = λ done. (
  λ tells. local_wrote g q graph asked s out.old out.new h k done (written tells),
  λ tells. let wrote = lines done tells in wrote.2 ∙ ap (λ (t : List ℕ). err.old ++ t) (local_lines q asked wrote.0 k wrote.1),
)

-- ---- `generate`

pub making_headline : (n : ℕ) (s : Status) (text : List ℕ) (out err : SinkWritten) → IsGivenEnd [] s text → (IsTrue err.tells → Gains err.old err.new err.before err.after text) → (IsTrue out.tells → Wrote (λ t. t ≡ summary n) s out.old out.new)
    → s ≡ status.Done → AreWritten (summary n) [] out err
making_headline n s text out err end gains wrote done = (
  λ tells. let w = subst (λ (v : Status). Wrote (λ t. t ≡ summary n) v out.old out.new) done (wrote tells) in w.2 ∙ ap (λ (t : List ℕ). out.old ++ t) w.1,
  λ tells. nothing_more err.old err.new text (gains tells).front (subst (λ (v : Status). IsGivenEnd [] v text) done end),
)

-- ---- by the command

pub no_headline : (read : List ℕ → FileRead) (w : WiresSeen) (asked : Option Asked) (out err : SinkWritten) → Headline read w asked status.NoMemory out err
no_headline read w None out err = tt
no_headline read w (Some (over_members r q workers block)) out err = λ es asked graphs graph_at told serve. (λ done. absurd (not_done done), λ cut. absurd (not_cut cut), λ failed. absurd (not_failed failed))
  where
    not_done : status.NoMemory ≡ status.Done → ⊥
    not_done h = cc

    not_cut : status.NoMemory ≡ status.WriteFault → ⊥
    not_cut h = cc

    not_failed : status.NoMemory ≡ status.EndpointFault → ⊥
    not_failed h = cc
no_headline read w (Some (planned r q)) out err = λ es asked graphs told. (λ done. absurd (not_done done), λ cut. absurd (not_cut cut), λ failed. absurd (not_failed failed))
  where
    not_done : status.NoMemory ≡ status.Done → ⊥
    not_done h = cc

    not_cut : status.NoMemory ≡ status.WriteFault → ⊥
    not_cut h = cc

    not_failed : status.NoMemory ≡ status.EndpointFault → ⊥
    not_failed h = cc
no_headline read w (Some (over_file g q)) out err = λ graph asked h k done. absurd (not_done done)
  where
    not_done : status.NoMemory ≡ status.Done → ⊥
    not_done h = cc
no_headline read w (Some (served g address count)) out err = tt
no_headline read w (Some (gated r address count workers block)) out err = tt
no_headline read w (Some (generated n)) out err = λ done. absurd (not_done done)
  where
    not_done : status.NoMemory ≡ status.Done → ⊥
    not_done h = cc

-- ---- what the members gave

-- nothing is written with another status
pub nothing_given : (read : List ℕ → FileRead) (w : WiresSeen) (asked : Option Asked) (s : Status) (out err : SinkWritten) → (s ≡ status.Done → ⊥) → (s ≡ status.WriteFault → ⊥) → WritesGiven read w asked s out err
nothing_given read w None s out err not_done not_cut = tt
nothing_given read w (Some (over_file g q)) s out err not_done not_cut = tt
nothing_given read w (Some (over_members r q workers block)) s out err not_done not_cut = (λ done. absurd (not_done done), λ cut. absurd (not_cut cut))
nothing_given read w (Some (planned r q)) s out err not_done not_cut = (λ done. absurd (not_done done), λ cut. absurd (not_cut cut))
nothing_given read w (Some (served g address count)) s out err not_done not_cut = tt
nothing_given read w (Some (gated r address count workers block)) s out err not_done not_cut = tt
nothing_given read w (Some (generated n)) s out err not_done not_cut = tt

pub want_gives_nothing : (read : List ℕ → FileRead) (w : WiresSeen) (asked : Option Asked) (out err : SinkWritten) → WritesGiven read w asked status.NoMemory out err
want_gives_nothing read w asked out err = nothing_given read w asked status.NoMemory out err not_done not_cut
  where
    not_done : status.NoMemory ≡ status.Done → ⊥
    not_done h = cc

    not_cut : status.NoMemory ≡ status.WriteFault → ⊥
    not_cut h = cc

pub usage_gives_nothing : (read : List ℕ → FileRead) (w : WiresSeen) (asked : Option Asked) (out err : SinkWritten) → WritesGiven read w asked status.Usage out err
usage_gives_nothing read w asked out err = nothing_given read w asked status.Usage out err not_done not_cut
  where
    not_done : status.Usage ≡ status.Done → ⊥
    not_done h = cc

    not_cut : status.Usage ≡ status.WriteFault → ⊥
    not_cut h = cc
