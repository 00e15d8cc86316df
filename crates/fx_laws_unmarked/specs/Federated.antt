-- What a query that is asked in one round, of all members, gives over several wires, or its plan, and why there is none.
use Rattle.fx_algebra.specs.Answers.{answer}
use Rattle.fx_algebra.specs.Cuts.{seeds, stations}
use Rattle.fx_algebra.specs.Graphs.{union}
use Rattle.fx_algebra.specs.Units.{sources}
use Rattle.fx_algebra.specs.declared.queries.Query.{Query}
use Rattle.fx_flows.specs.Flows.{IsBatchRead}
use Rattle.fx_laws_unmarked.specs.Causes.{IsUnitOf, IsUnitBefore, HasPlanCause, HasFedCause, FailedAtAsk, AsksComeFirst}
use Rattle.fx_outcomes.specs.Asks.{IsAnsweredBy, IsAskRead}
use Rattle.fx_outcomes.specs.Calls.{AgreesWith, AreAllOrNone, AreCalls, Call, IsPassed, down_in, failures_at, occurrences}
use Rattle.fx_outcomes.specs.Mediation.{AreKnown, FailedBeside, KnowsServices, Serve}
use Rattle.fx_outcomes.specs.Order.{AreGiven}
use Rattle.fx_outcomes.specs.declared.federated.FedError.TheVariants as fed
use Rattle.fx_outcomes.specs.declared.federated.FedError.{FedError}
use Rattle.fx_outcomes.specs.declared.federated.Outcome.{Outcome}
use Rattle.fx_outside.specs.Endpoints.{EndpointParts}
use Rattle.fx_plan.specs.Explained.{HasMembers}
use Rattle.fx_plan.specs.declared.parts.Part.{Part}
use Rattle.fx_services.specs.Noted.{places}
use Rattle.fx_sources.specs.Patterns.{patterns}
use Rattle.fx_sources.specs.Probes.{Entry, chosen, learned, missing, told}
use Rattle.fx_sources.specs.Sources as source
use Rattle.fx_terms.specs.declared.triples.Triple.{Triple}
use Rattle.fx_traffic.specs.Batches.{IsBatchText}
use Rattle.fx_traffic.specs.Gains.{AreAfter, HaveGained, faults_at}
use Rattle.fx_traffic.specs.Sent.{Sent, Sends}
use Rattle.fx_traffic.specs.Traffic.{AreAsked, IsTraffic}
use Rattle.fx_walks.specs.RunsSent.{AreRunsSent}
use Rattle.fx_walks.specs.Sections.{parts_by, parts_with, sections}
use Rattle.fx_wire.specs.Exchanges.{Exchange, Seen}
use Rattle.std.specs.List.{zip}
use Rattle.std.specs.Prelude.{◌≡◌, ◌≤◌, ◌+◌, ◌⊎◌, ◌++◌, ℕ, Bool, List, [], IsPermutation, map, IfOk, IfErr, IsTrue, All, Contains, Result, Ok, Err, length}

-- ---- the cache

-- what the cache holds behind: what it learned of the answers to all that was missing, by one exchange each
pub record HasLearned (endpoints : List EndpointParts) (q : Query) (old new : List Entry) (xs : List Exchange) : Type 0 where
  pub truths : List Bool
  pub many : length truths ≡ length (missing q (length endpoints) old)
  pub answered : All (IsAnsweredBy endpoints xs) (zip (missing q (length endpoints) old) truths)
  pub learned_so : new ≡ learned old (missing q (length endpoints) old) truths

-- each entry was held before, or is one of these answers
pub record HasKept (endpoints : List EndpointParts) (q : Query) (old new : List Entry) (xs : List Exchange) : Type 0 where
  pub each : All (λ (entry : Entry). Contains old entry ⊎ (Contains (missing q (length endpoints) old) entry.0 × IsAnsweredBy endpoints xs entry)) new

abbrev pub HoldsBehind : {X : Type 0} → List EndpointParts → Query → List Entry → List Entry → List Exchange → Result X FedError → Type 0
HoldsBehind endpoints q old new xs (Ok given) = HasLearned endpoints q old new xs
HoldsBehind endpoints q old new xs (Err fed.Memory) = HasKept endpoints q old new xs
HoldsBehind endpoints q old new xs (Err e) = new ≡ old

-- ---- what is read

-- the exchange asks whether a key fits that the entries lack, or for a batch of a unit of the query, and its reply was read, without a fault
abbrev pub IsRead : List EndpointParts → Query → List Entry → Exchange → Type 0
IsRead endpoints q entries x = IsAskRead (missing q (length endpoints) entries) x ⊎ IsBatchRead (IsUnitOf q) x

-- ---- a query, and its plan

-- A query was asked over wires, in batches of so many rows at most: what was exchanged, one wire's part behind the other's. Of that the one part is for the
-- occurrences of SERVICE, which were all invoked, each once, or none of them: what each came to, by its own exchanges. The other is ASKs and texts of batches
-- that were wanted of the query, which where graphs are told are those of its runs; with an answer, each of them was sent, and each reply there was read without a fault. Together they are the
-- query's traffic, whichever are down of the occurrences that didn't pass, or stand behind one that didn't. With an answer: all occurrences were invoked, those that have no
-- rows are silent, and are down; and the answer is that over the union of the graphs. Else the cause, which of occurrences is that of the first in text order that was refused, and of an endpoint is in
-- the part that isn't for occurrences; one is named as failed for an ASK that is left, or since more exchanges failed there than those with occurrences. ASKs come first: nothing else was asked for before each had its answer. Batches are wanted of runs before each occurrence that was refused alone, so a batch
-- that is refused is of one of these. And a refusal is that of an occurrence, and of no ASK and no batch, only where all that was asked for beside the occurrences was given. At each address as many faults at least were counted as exchanges with occurrences failed there, and with an answer no other by wires that count each
-- address alone. And what the cache holds, which stays true of graphs.
pub record Federated (tells alone : Bool) (before after : List Seen) (endpoints : List EndpointParts) (q : Query) (old new : List Entry) (block : ℕ) (result : Result Outcome FedError) : Type 0 where
  pub exchanges : List Exchange
  pub gained : IsTrue tells → HaveGained before after exchanges
  pub after_all : AreAfter before after
  pub calls : List Call
  pub called : AreAllOrNone calls (occurrences q)
  pub all_called : IfOk result (λ _. map (λ c. c.of) calls ≡ occurrences q)
  pub passed : IfOk result (λ _. All IsPassed calls)
  pub down : IfOk result (λ outcome. outcome.down ≡ down_in calls)
  pub counted : (address : List ℕ) → faults_at before address + failures_at address calls ≤ faults_at after address
  pub exact : IsTrue alone → IfOk result (λ _. (address : List ℕ) → faults_at after address ≡ faults_at before address + failures_at address calls)
  pub of_calls : List Exchange
  pub of_others : List Exchange
  pub parted : IsPermutation (of_others ++ of_calls) exchanges
  pub are_calls : AreCalls before endpoints calls of_calls
  pub asks : List Sent
  pub asked : AreAsked endpoints q old asks
  pub texts : List Sent
  pub of_batches : All (IsBatchText endpoints block (IsUnitBefore q calls)) texts
  pub of_runs : (graphs : List (List Triple)) → AreKnown before endpoints old graphs → (services : List ℕ → List Triple) → Serve services endpoints graphs
      → (down : List ℕ) → AgreesWith down calls → AreRunsSent endpoints graphs block (stations q) (seeds q (union graphs) services down) texts
  pub left : List Sent
  pub sent : Sends (asks ++ texts) left of_others
  pub whole : IfOk result (λ _. left ≡ [])
  pub faultless : IfOk result (λ _. All (IsRead endpoints q old) of_others)
  pub traffic : (graphs : List (List Triple)) → AreKnown before endpoints old graphs → (services : List ℕ → List Triple) → Serve services endpoints graphs
      → (down : List ℕ) → AgreesWith down calls → (unsent : List Sent) × IsTraffic endpoints graphs block services down q old unsent exchanges
  pub answer : IfOk result (λ outcome. (graphs : List (List Triple)) → AreKnown before endpoints old graphs → (services : List ℕ → List Triple) → Serve services endpoints graphs
      → outcome.answer ≡ answer q (union graphs) services (places outcome.down))
  pub known : KnowsServices endpoints q result
  pub cause : IfErr result (HasFedCause before after endpoints q old calls calls texts of_others block)
  pub own_failure : IfErr result (λ e. FailedAtAsk before after endpoints q old calls left e ⊎ FailedBeside before after endpoints q calls e)
  pub asks_first : AsksComeFirst endpoints (missing q (length endpoints) old) calls texts exchanges
  pub in_turn : IfErr result (λ e. HasFedCause before after endpoints q old calls [] texts of_others block e ⊎ AreGiven alone before after calls (IsRead endpoints q old) left of_others)
  pub held : HoldsBehind endpoints q old new exchanges result
  pub stays_true : (graphs : List (List Triple)) → AreKnown before endpoints old graphs → All (source.Tells graphs) new

-- the plan is the query's by the sources that the cache's answers tell, those that it held before and those that it learned
pub record IsPlannedBy (endpoints : List EndpointParts) (q : Query) (old new : List Entry) (xs : List Exchange) (parts : List Part) : Type 0 where
  pub answers : HasLearned endpoints q old new xs
  pub parts_are : parts ≡ parts_by (sections q) (chosen q (length endpoints) (told (missing q (length endpoints) old) answers.truths ++ old))

-- The ASKs of a query were asked over wires, and nothing else: its plan, which where graphs are told is that by the sources of its patterns, or the cause;
-- and what the cache holds, which stays true of graphs.
pub record Planned (tells alone : Bool) (before after : List Seen) (endpoints : List EndpointParts) (q : Query) (old new : List Entry) (result : Result (List Part) FedError) : Type 0 where
  pub exchanges : List Exchange
  pub gained : IsTrue tells → HaveGained before after exchanges
  pub after_all : AreAfter before after
  pub quiet : IsTrue alone → IfOk result (λ _. (address : List ℕ) → faults_at after address ≡ faults_at before address)
  pub asks : List Sent
  pub asked : AreAsked endpoints q old asks
  pub left : List Sent
  pub sent : Sends asks left exchanges
  pub whole : IfOk result (λ _. left ≡ [])
  pub faultless : IfOk result (λ _. All (IsAskRead (missing q (length endpoints) old)) exchanges)
  pub parts : IfOk result (λ parts. (graphs : List (List Triple)) → AreKnown before endpoints old graphs → parts ≡ parts_with (sources graphs) q)
  pub by_answers : IfOk result (IsPlannedBy endpoints q old new exchanges)
  pub within : IfOk result (All (HasMembers (length endpoints)))
  pub known : KnowsServices endpoints q result
  pub cause : IfErr result (HasPlanCause before after endpoints q old exchanges)
  pub held : HoldsBehind endpoints q old new exchanges result
  pub stays_true : (graphs : List (List Triple)) → AreKnown before endpoints old graphs → All (source.Tells graphs) new
