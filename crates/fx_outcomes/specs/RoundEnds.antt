-- How a round ends, and how rounds follow one another.
use Rattle.std.specs.Prelude.{◌≡◌, ◌≢◌, ◌⊎◌, ℕ, Bool, true, false, List, [], ◌∷◌, All, map, Result, Ok, Err}
use Rattle.fx_outside.specs.Endpoints.{EndpointParts}
use Rattle.fx_algebra.specs.declared.queries.Query.{Query}
use Rattle.fx_plan.specs.declared.parts.Part.{Part}
use Rattle.fx_flows.specs.RunFlows.{HasFlowCause}
use Rattle.fx_flows.specs.declared.flows.FlowError.{FlowError}
use Rattle.fx_services.specs.Noted.{places}
use Rattle.fx_services.specs.declared.noted.Down.{Down}
use Rattle.fx_services.specs.declared.services.ServiceError.{ServiceError}
use Rattle.fx_walks.specs.GroupsAsked.{units_in}
use Rattle.fx_walks.specs.Tasks.{tasks_with}
use Rattle.fx_wire.specs.Exchanges.{Seen}
use Rattle.fx_outcomes.specs.Calls.{IsPassed, down_in, occurrences}
use Rattle.fx_outcomes.specs.Mediation.{IsNamed}
use Rattle.fx_outcomes.specs.Outcomes.{IsTold, Outcomed}
use Rattle.fx_outcomes.specs.Rounds.{IsLeftBy, IsMarked, IsRequired, MayLeave, without_all}
use Rattle.fx_outcomes.specs.declared.federated.FedError.{FedError}
use Rattle.fx_outcomes.specs.declared.federated.FedError.TheVariants as fed
use Rattle.fx_outcomes.specs.declared.rounds.Ended.{Ended}
use Rattle.fx_outcomes.specs.declared.rounds.Ended.TheVariants as ended
use Rattle.fx_outcomes.specs.declared.rounds.Left.{Left}
use Rattle.fx_outcomes.specs.declared.rounds.Round.{Round}

-- ---- a refusal of a batch

-- the member that it names may be left out
abbrev pub LeavesOut : List EndpointParts → FlowError → Type 0
LeavesOut endpoints why = (l : Left) × IsLeftBy why l × IsMarked true endpoints l.at

-- it may be, or it mustn't
abbrev pub IsWhether : List EndpointParts → FlowError → Bool → Type 0
IsWhether endpoints why true = LeavesOut endpoints why
IsWhether endpoints why false = IsRequired endpoints why

-- What it makes of a round in which these occurrences are down: the round is abandoned, and the member that it names left out; or the refusal is told, unless memory ran out.
abbrev pub IsEndFor : List EndpointParts → List Down → FlowError → Result Ended FedError → Type 0
IsEndFor endpoints down why (Ok (ended.Answered outcome)) = ⊥
IsEndFor endpoints down why (Ok (ended.Abandoned r)) = ((l : Left) × IsLeftBy why l × IsMarked true endpoints l.at × (r.left ≡ l ∷ [])) × (r.down ≡ places down)
IsEndFor endpoints down why (Err fed.Memory) = Unit {0}
IsEndFor endpoints down why (Err e) = IsNamed endpoints why e × IsRequired endpoints why

-- Where an occurrence of SERVICE was refused, too: the batch's refusal is told, or the occurrence's, if the member may be left out.
abbrev pub IsFirstOf : List EndpointParts → FlowError → ServiceError → FedError → Type 0
IsFirstOf endpoints why error e = (IsNamed endpoints why e × IsRequired endpoints why) ⊎ (IsTold endpoints error e × LeavesOut endpoints why)

-- ---- a round

-- A round was abandoned: each occurrence of SERVICE was invoked and passed, those of these numbers are down, and a batch was refused at the one member that is left out. What is known of
-- what was asked is what is known where that refusal is told.
pub record IsAbandoned (tells alone : Bool) (before after : List Seen) (endpoints : List EndpointParts) (q : Query) (plan : List Part) (block : ℕ) (r : Round) : Type 0 where
  pub why : FlowError
  pub error : FedError
  pub named : IsNamed endpoints why error
  pub of_member : error ≢ fed.Memory
  pub left : Left
  pub its : IsLeftBy why left
  pub optional : IsMarked true endpoints left.at
  pub left_is : r.left ≡ left ∷ []
  pub went : Outcomed (λ it. it ≡ why) (λ it. it ≡ why) tells alone before after endpoints q plan block (Err error)
  pub cause : HasFlowCause before after endpoints (units_in (tasks_with plan went.found)) block went.texts went.of_runs why
  pub all_called : map (λ c. c.of) went.calls ≡ occurrences q
  pub passed : All IsPassed went.calls
  pub down_is : r.down ≡ places (down_in went.calls)

-- how it ended
abbrev pub RoundEnded : Bool → Bool → List Seen → List Seen → List EndpointParts → Query → List Part → ℕ → Result Ended FedError → Type 0
RoundEnded tells alone before after endpoints q plan block (Ok (ended.Answered outcome)) = Outcomed (IsRequired endpoints) (LeavesOut endpoints) tells alone before after endpoints q plan block (Ok outcome)
RoundEnded tells alone before after endpoints q plan block (Ok (ended.Abandoned r)) = IsAbandoned tells alone before after endpoints q plan block r
RoundEnded tells alone before after endpoints q plan block (Err e) = Outcomed (IsRequired endpoints) (LeavesOut endpoints) tells alone before after endpoints q plan block (Err e)

-- ---- rounds, one after the other

-- each was abandoned over the members that were kept, by the plan that these have, and then its member was left out
abbrev pub AreAbandoned : Bool → Bool → List Seen → List Seen → List EndpointParts → Query → (List Bool → List Part) → ℕ → List Bool → List Bool → List Round → Type 0
AreAbandoned tells alone before after endpoints q plan block kept last [] = (after ≡ before) × (last ≡ kept)
AreAbandoned tells alone before after endpoints q plan block kept last (r ∷ rounds) =
    (between : List Seen) × IsAbandoned tells alone before between endpoints q (plan kept) block r × All (MayLeave endpoints kept) r.left
    × AreAbandoned tells alone between after endpoints q plan block (without_all r.left kept) last rounds
