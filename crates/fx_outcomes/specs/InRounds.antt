-- What a federation gives in rounds: the ASKs, the rounds that are abandoned, each for a member that is left out, and the last one.
use Rattle.std.specs.Prelude.{◌≡◌, ◌⊎◌, ◌++◌, ◌∷◌, ℕ, Bool, true, List, [], All, Contains, IfErr, IfOk, Result, Ok, Err, length}
use Rattle.std.specs.List.{zip}
use Rattle.fx_terms.specs.declared.triples.Triple.{Triple}
use Rattle.fx_outside.specs.Endpoints.{EndpointParts}
use Rattle.fx_algebra.specs.Answers.{answer}
use Rattle.fx_algebra.specs.Graphs.{union}
use Rattle.fx_algebra.specs.Units.{of_kept, sources}
use Rattle.fx_algebra.specs.declared.queries.Query.{Query}
use Rattle.fx_plan.specs.Explained.{HasMembers}
use Rattle.fx_plan.specs.declared.parts.Part.{Part}
use Rattle.fx_flows.specs.declared.flows.FlowError.{FlowError}
use Rattle.fx_services.specs.Noted.{places}
use Rattle.fx_sources.specs.Probes.{Entry, learned, missing}
use Rattle.fx_sources.specs.Sources as source
use Rattle.fx_traffic.specs.Gains.{WiresSeen}
use Rattle.fx_walks.specs.Sections.{parts_with}
use Rattle.fx_wire.specs.Exchanges.{Seen}
use Rattle.fx_outcomes.specs.Mediation.{AreKnown, IsNamed, KnowsServices, Serve}
use Rattle.fx_outcomes.specs.Outcomes.{Outcomed}
use Rattle.fx_outcomes.specs.RoundEnds.{AreAbandoned, LeavesOut}
use Rattle.fx_outcomes.specs.Rounds.{AskedMembers, IsRequired, kept_choice, kept_entries}
use Rattle.fx_outcomes.specs.declared.federated.FedError.{FedError}
use Rattle.fx_outcomes.specs.declared.federated.FedError.TheVariants as fed
use Rattle.fx_outcomes.specs.declared.federated.Outcome.{Outcome}
use Rattle.fx_outcomes.specs.declared.rounds.Answers.{Answers}
use Rattle.fx_outcomes.specs.declared.rounds.Left.{Left}
use Rattle.fx_outcomes.specs.declared.rounds.OutcomeInRounds.{OutcomeInRounds}
use Rattle.fx_outcomes.specs.declared.rounds.PlanInRounds.{PlanInRounds}
use Rattle.fx_outcomes.specs.declared.rounds.Round.{Round}

-- ---- the plan

-- the plan of a query over the members that are kept, by the answers and what was known before
abbrev pub plan_over : List EndpointParts → Query → List Entry → Answers → List Bool → List Part
plan_over endpoints q old a kept = parts_with (kept_choice kept (kept_entries kept (zip a.probes.items a.truths.items) old) (length endpoints)) q

-- ---- the rounds

-- the round that the ASKs abandon where they leave somebody out
abbrev pub by_asks : List Left → List Round
by_asks [] = []
by_asks (l ∷ left) = record { left = l ∷ left; down = [] } ∷ []

-- the last round ended so: what it gave, or its refusal; or memory ran out, before it began or behind it
abbrev pub IsLast : Result Outcome FedError → Result OutcomeInRounds FedError → Type 0
IsLast (Ok outcome) (Ok all) = all.outcome ≡ outcome
IsLast (Err e) (Ok all) = ⊥
IsLast last (Err fed.Memory) = Unit {0}
IsLast (Ok outcome) (Err e) = ⊥
IsLast (Err why) (Err e) = e ≡ why

-- rounds over the members that are kept at first, by these answers: those that were abandoned, the last one, and what it ended with
pub record WentRound (tells alone : Bool) (before after : List Seen) (endpoints : List EndpointParts) (q : Query) (plan : List Bool → List Part) (block : ℕ) (kept : List Bool) (result : Result OutcomeInRounds FedError) : Type 0 where
  pub abandoned : List Round
  pub between : List Seen
  pub last_kept : List Bool
  pub rounds : AreAbandoned tells alone before between endpoints q plan block kept last_kept abandoned
  pub ended : Result Outcome FedError
  pub last : Outcomed (IsRequired endpoints) (LeavesOut endpoints) tells alone between after endpoints q (plan last_kept) block ended
  pub told : IsLast ended result
  pub listed : IfOk result (λ all. all.abandoned ≡ abandoned)

-- ---- the cache

-- what it holds behind all: what it learned of the answers; after want of memory, each entry was held before or is one of these; after a refusal it is as before
abbrev pub HoldsAnswers : {X : Type 0} → List Entry → List Entry → Answers → Result X FedError → Type 0
HoldsAnswers old new a (Ok all) = new ≡ learned old a.probes.items a.truths.items
HoldsAnswers old new a (Err fed.Memory) = All (λ (e : Entry). Contains old e ⊎ Contains (zip a.probes.items a.truths.items) e) new
HoldsAnswers old new a (Err e) = new ≡ old

-- ---- all

-- a SERVICE names no endpoint, or memory ran out before anything was asked
pub record IsUnasked {X : Type 0} (before after : List Seen) (old new : List Entry) (result : Result X FedError) : Type 0 where
  pub same : after ≡ before
  pub kept : new ≡ old
  pub error : FedError
  pub is : result ≡ Err error
  pub unasked : (error ≡ fed.Memory) ⊎ ((iri : List ℕ) × (error ≡ fed.UnknownService iri))

-- an ASK was refused, at an endpoint that mustn't be left out
pub record IsRefusedAtAsks {X : Type 0} (tells alone : Bool) (before after : List Seen) (endpoints : List EndpointParts) (q : Query) (old new : List Entry) (result : Result X FedError) : Type 0 where
  pub why : FlowError
  pub asking : AskedMembers tells alone before after endpoints (missing q (length endpoints) old) (Err why)
  pub error : FedError
  pub is : result ≡ Err error
  pub named : IsNamed endpoints why error
  pub kept : new ≡ old

-- The ASKs were asked, and then the rounds went over the members that are kept. With an answer: it is that over the union of the graphs of those that are kept at last.
pub record WentInRounds (tells alone : Bool) (before after : List Seen) (endpoints : List EndpointParts) (q : Query) (old new : List Entry) (block : ℕ) (result : Result OutcomeInRounds FedError) : Type 0 where
  pub asked : List Seen
  pub answers : Answers
  pub asking : AskedMembers tells alone before asked endpoints (missing q (length endpoints) old) (Ok answers)
  pub rest : Result OutcomeInRounds FedError
  pub went : WentRound tells alone asked after endpoints q (plan_over endpoints q old answers) block answers.kept.items rest
  pub listed : IfOk result (λ all. all.abandoned ≡ by_asks answers.left.items ++ went.abandoned)
  pub told : IsLast went.ended result
  pub held : HoldsAnswers old new answers result
  pub answer : IfOk result (λ all. (graphs : List (List Triple)) → AreKnown before endpoints old graphs → (services : List ℕ → List Triple) → Serve services endpoints graphs
      → all.outcome.answer ≡ answer q (union (of_kept went.last_kept graphs)) services (places all.outcome.down))

-- A query was asked in rounds, in batches of so many rows at most. Each SERVICE without SILENT names an endpoint, unless the first that doesn't is told, or memory ran out. What the cache holds stays
-- true of graphs.
pub record FederatedInRounds (tells alone : Bool) (before after : List Seen) (endpoints : List EndpointParts) (q : Query) (old new : List Entry) (block : ℕ) (result : Result OutcomeInRounds FedError) : Type 0 where
  pub known : KnowsServices endpoints q result
  pub went : IsUnasked before after old new result ⊎ (IsRefusedAtAsks tells alone before after endpoints q old new result ⊎ WentInRounds tells alone before after endpoints q old new block result)
  pub stays_true : (graphs : List (List Triple)) → AreKnown before endpoints old graphs → All (source.Tells graphs) new

abbrev pub FederatedInRoundsOver : WiresSeen → List EndpointParts → Query → List Entry → List Entry → ℕ → Result OutcomeInRounds FedError → Type 0
FederatedInRoundsOver w endpoints q old new block result = FederatedInRounds w.tells w.alone w.before w.after endpoints q old new block result

-- ---- a plan

-- The ASKs were asked, and nothing else: the plan over the members that these kept, which where graphs are told is that by the sources of its patterns among theirs; or memory ran out.
pub record PlannedByAnswers (tells alone : Bool) (before after : List Seen) (endpoints : List EndpointParts) (q : Query) (old new : List Entry) (result : Result PlanInRounds FedError) : Type 0 where
  pub answers : Answers
  pub asking : AskedMembers tells alone before after endpoints (missing q (length endpoints) old) (Ok answers)
  pub listed : IfOk result (λ p. p.abandoned ≡ by_asks answers.left.items)
  pub lost : IfErr result (λ e. e ≡ fed.Memory)
  pub held : HoldsAnswers old new answers result
  pub plan_is : IfOk result (λ p. p.parts.items ≡ plan_over endpoints q old answers answers.kept.items)
  pub within : IfOk result (λ p. All (HasMembers (length endpoints)) p.parts.items)
  pub parts : IfOk result (λ p. (graphs : List (List Triple)) → AreKnown before endpoints old graphs → p.parts.items ≡ parts_with (sources (of_kept answers.kept.items graphs)) q)

-- A query was planned so. Each SERVICE without SILENT names an endpoint, unless the first that doesn't is told, or memory ran out. What the cache holds stays true of graphs.
pub record PlannedInRounds (tells alone : Bool) (before after : List Seen) (endpoints : List EndpointParts) (q : Query) (old new : List Entry) (result : Result PlanInRounds FedError) : Type 0 where
  pub known : KnowsServices endpoints q result
  pub went : IsUnasked before after old new result ⊎ (IsRefusedAtAsks tells alone before after endpoints q old new result ⊎ PlannedByAnswers tells alone before after endpoints q old new result)
  pub stays_true : (graphs : List (List Triple)) → AreKnown before endpoints old graphs → All (source.Tells graphs) new

abbrev pub PlannedInRoundsOver : WiresSeen → List EndpointParts → Query → List Entry → List Entry → Result PlanInRounds FedError → Type 0
PlannedInRoundsOver w endpoints q old new result = PlannedInRounds w.tells w.alone w.before w.after endpoints q old new result
