-- The answer of a query by its plan, with its occurrences of SERVICE, or why there is none.
use Rattle.std.specs.Prelude.{◌≡◌, ◌<◌, ◌≤◌, ◌+◌, ◌⊎◌, ◌++◌, ℕ, Bool, List, [], IfOk, IfErr, IsTrue, IsPermutation, All, Contains, Some, Result, length, map, slice_get}
use Rattle.std.specs.List.{AllByRecursion}
use Rattle.fx_terms.specs.declared.patterns.Pattern.{Pattern}
use Rattle.fx_terms.specs.declared.triples.Triple.{Triple}
use Rattle.fx_outside.specs.Endpoints.{EndpointParts}
use Rattle.fx_algebra.specs.Answers.{answer}
use Rattle.fx_algebra.specs.Cuts.{seeds, stations}
use Rattle.fx_algebra.specs.Graphs.{union}
use Rattle.fx_algebra.specs.Solutions.{Bindings}
use Rattle.fx_algebra.specs.Units.{of_kept, sources}
use Rattle.fx_algebra.specs.declared.queries.Query.{Query}
use Rattle.fx_plan.specs.declared.parts.Part.{Part}
use Rattle.fx_flows.specs.Flows.{IsBatchRead}
use Rattle.fx_flows.specs.RunFlows.{HasFlowCause}
use Rattle.fx_flows.specs.declared.flows.FlowError.{FlowError}
use Rattle.fx_traffic.specs.Batches.{IsBatchText}
use Rattle.fx_traffic.specs.Gains.{AreAfter, HaveGained, TellAll, faults_at}
use Rattle.fx_traffic.specs.Sent.{Sent, Sends}
use Rattle.fx_wire.specs.Exchanges.{Exchange, Seen}
use Rattle.fx_outcomes.specs.Calls.{AgreesWith, AreAllOrNone, AreCalls, Call, HasFirstRefused, IsPassed, IsRefused, down_in, failures_at, occurrences}
use Rattle.fx_walks.specs.GroupsAsked.{units_in}
use Rattle.fx_outcomes.specs.Mediation.{AtNamed, FailedBeside, HasName, IsNamed, Serve}
use Rattle.fx_services.specs.Noted.{places}
use Rattle.fx_outcomes.specs.Order.{AreGiven}
use Rattle.fx_walks.specs.RunsSent.{AreRunsSent}
use Rattle.fx_walks.specs.Sections.{part_with, parts_with, sections}
use Rattle.fx_walks.specs.Tasks.{tasks_with}
use Rattle.fx_services.specs.declared.noted.DownCause.TheVariants as cause
use Rattle.fx_outcomes.specs.declared.federated.FedError.{FedError}
use Rattle.fx_outcomes.specs.declared.federated.FedError.TheVariants as fed
use Rattle.fx_outcomes.specs.declared.federated.Outcome.{Outcome}
use Rattle.fx_services.specs.declared.services.ServiceError.{ServiceError}
use Rattle.fx_services.specs.declared.services.ServiceError.TheVariants as error

-- ---- refusals

-- the first occurrence without SILENT that has no rows has none for the reason that the refusal tells, at the endpoint that it names
abbrev pub HasRefusal : List Seen → List Seen → List EndpointParts → List Call → FedError → Type 0
HasRefusal before after endpoints calls (fed.Service iri) = HasFirstRefused calls cause.Failed iri × ((e : EndpointParts) × Contains endpoints e × (e.iri ≡ iri)) × (faults_at before iri < faults_at after iri)
HasRefusal before after endpoints calls (fed.BadReply name bad) = AtNamed endpoints name (λ e. HasFirstRefused calls (cause.Bad bad) e.iri)
HasRefusal before after endpoints calls (fed.RequestTooLong name size) = AtNamed endpoints name (λ e. HasFirstRefused calls (cause.TooLong size) e.iri)
HasRefusal before after endpoints calls fed.Memory = Unit {0}
HasRefusal before after endpoints calls e = ⊥

-- a batch of the plan's units was refused, at the endpoint that has the name, for which a refusal may be told
abbrev pub HasBatchRefusal : (FlowError → Type 0) → List Seen → List Seen → List EndpointParts → List Part → List (List Bindings) → ℕ → List Sent → List Exchange → FedError → Type 0
HasBatchRefusal Told before after endpoints plan found block texts xs e =
    (why : FlowError) × HasFlowCause before after endpoints (units_in (tasks_with plan found)) block texts xs why × IsNamed endpoints why e × Told why

-- a batch of them was refused at an endpoint that may be left out, and the refusal isn't told
abbrev pub HasBatchEvent : (FlowError → Type 0) → List Seen → List Seen → List EndpointParts → List Part → List (List Bindings) → ℕ → List Sent → List Exchange → Type 0
HasBatchEvent Untold before after endpoints plan found block texts xs = (why : FlowError) × HasFlowCause before after endpoints (units_in (tasks_with plan found)) block texts xs why × Untold why

-- the one or the other
abbrev pub HasOutcomeCause : (FlowError → Type 0) → List Seen → List Seen → List EndpointParts → List Part → List (List Bindings) → ℕ → List Call → List Sent → List Exchange → FedError → Type 0
HasOutcomeCause Told before after endpoints plan found block calls texts xs e = HasBatchRefusal Told before after endpoints plan found block texts xs e ⊎ HasRefusal before after endpoints calls e

-- the number that the reason names is that of an endpoint
abbrev pub IsPlacedAt : ℕ → ServiceError → Type 0
IsPlacedAt count (error.Failed at) = at < count
IsPlacedAt count (error.Bad at bad) = at < count
IsPlacedAt count (error.TooLong at size) = at < count
IsPlacedAt count error.Unknown = ⊥

-- whether wires tell their logs
abbrev pub AllTell : Bool → List Seen → Type 0
AllTell tells wires = AllByRecursion (λ w. w.tells_log ≡ tells) wires

-- there are rows for each occurrence of SERVICE of a query
abbrev pub IsAllOf : Query → List (List Bindings) → Type 0
IsAllOf q rows = length rows ≡ length (occurrences q)

-- a plan of a query, by the sources that a function gives its patterns
abbrev pub IsPlanOf : Query → List Part → Type 0
IsPlanOf q plan = (f : Pattern → List ℕ) × (plan ≡ map (part_with f) (sections q))

-- the refusal of an occurrence without SILENT, with the name or the address of the endpoint in place of its number, unless memory ran out
abbrev pub IsTold : List EndpointParts → ServiceError → FedError → Type 0
IsTold endpoints why fed.Memory = Unit {0}
IsTold endpoints (error.Failed at) (fed.Service iri) = (e : EndpointParts) × (slice_get endpoints at ≡ Some e) × (e.iri ≡ iri)
IsTold endpoints (error.Bad at bad) (fed.BadReply name other) = HasName endpoints at name × (other ≡ bad)
IsTold endpoints (error.TooLong at size) (fed.RequestTooLong name other) = HasName endpoints at name × (other ≡ size)
IsTold endpoints why e = ⊥

-- ---- an outcome

-- The graph of each endpoint is told, and is that of the IRI which is its address. These are the graphs of those that are kept, with an empty one in the place of each other, and
-- the plan is by the sources that patterns have there: so it asks none that isn't kept.
pub record IsPlannedOver (before : List Seen) (endpoints : List EndpointParts) (q : Query) (plan : List Part) (graphs : List (List Triple)) (services : List ℕ → List Triple) : Type 0 where
  pub all : List (List Triple)
  pub told : TellAll before endpoints all
  pub served : Serve services endpoints all
  pub kept : List Bool
  pub those_kept : graphs ≡ of_kept kept all
  pub plan_is : plan ≡ parts_with (sources graphs) q

-- The occurrences of SERVICE of a query were invoked over wires, and then its runs were asked for by a plan, from the rows that the occurrences gave: what was
-- exchanged for the one and for the other, and what is known of both. A batch's refusal is told where Told says so of it; one of which Untold does ends the asking, too, behind an
-- occurrence that is refused.
pub record Outcomed (Told Untold : FlowError → Type 0) (tells alone : Bool) (before after : List Seen) (endpoints : List EndpointParts) (q : Query) (plan : List Part) (block : ℕ) (result : Result Outcome FedError) : Type 0 where
  pub found : List (List Bindings)
  pub exchanges : List Exchange
  pub gained : IsTrue tells → HaveGained before after exchanges
  pub after_all : AreAfter before after
  pub calls : List Call
  pub called : AreAllOrNone calls (occurrences q)
  pub behind : (k : ℕ) (c : Call) → slice_get calls k ≡ Some c → IsRefused c → length found ≤ k
  pub all_called : IfOk result (λ _. map (λ c. c.of) calls ≡ occurrences q)
  pub passed : IfOk result (λ _. All IsPassed calls)
  pub down : IfOk result (λ outcome. outcome.down ≡ down_in calls)
  pub counted : (address : List ℕ) → faults_at before address + failures_at address calls ≤ faults_at after address
  pub exact : IsTrue alone → IfOk result (λ _. (address : List ℕ) → faults_at after address ≡ faults_at before address + failures_at address calls)
  pub of_calls : List Exchange
  pub of_runs : List Exchange
  pub parted : IsPermutation (of_runs ++ of_calls) exchanges
  pub are_calls : AreCalls before endpoints calls of_calls
  pub texts : List Sent
  pub of_batches : All (IsBatchText endpoints block (Contains (units_in (tasks_with plan found)))) texts
  pub left : List Sent
  pub sent : Sends texts left of_runs
  pub whole : IfOk result (λ _. left ≡ [])
  pub faultless : IfOk result (λ _. All (IsBatchRead (Contains (units_in (tasks_with plan found)))) of_runs)
  pub runs : (graphs : List (List Triple)) (services : List ℕ → List Triple) → IsPlannedOver before endpoints q plan graphs services
      → (down : List ℕ) → AgreesWith down calls → AreRunsSent endpoints graphs block (stations q) (seeds q (union graphs) services down) texts
  pub answer : IfOk result (λ outcome. (graphs : List (List Triple)) (services : List ℕ → List Triple) → IsPlannedOver before endpoints q plan graphs services
      → outcome.answer ≡ answer q (union graphs) services (places outcome.down))
  pub cause : IfErr result (HasOutcomeCause Told before after endpoints plan found block calls texts of_runs)
  pub own_failure : IfErr result (FailedBeside before after endpoints q calls)
  pub in_turn : IfErr result (λ e. HasBatchRefusal Told before after endpoints plan found block texts of_runs e ⊎ (HasBatchEvent Untold before after endpoints plan found block texts of_runs ⊎ AreGiven alone before after calls (IsBatchRead (Contains (units_in (tasks_with plan found)))) left of_runs))
