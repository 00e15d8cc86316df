-- Why a query that is asked in one round, of all members, has no plan or no answer.
use Rattle.fx_algebra.specs.Cuts.{stations}
use Rattle.fx_algebra.specs.Stations as station
use Rattle.fx_algebra.specs.Stations.{Station}
use Rattle.fx_algebra.specs.declared.queries.Query.{Query}
use Rattle.fx_algebra.specs.declared.units.Row.{Row}
use Rattle.fx_algebra.specs.declared.units.Unit as unit
use Rattle.fx_flows.specs.Flows.{IsBadBatch, IsLongBatch}
use Rattle.fx_keys.specs.declared.probes.Probe.{Probe}
use Rattle.fx_outcomes.specs.Asks.{HasAskLeft, IsAnsweredBy, IsBadAsk}
use Rattle.fx_outcomes.specs.Calls.{Call, HasFirstRefused, IsRefused, occurrences}
use Rattle.fx_outcomes.specs.declared.federated.FedError.TheVariants as fed
use Rattle.fx_outcomes.specs.declared.federated.FedError.{FedError}
use Rattle.fx_outside.specs.Endpoints.{EndpointParts}
use Rattle.fx_pool.specs.declared.jobs.BadReply.{BadReply}
use Rattle.fx_services.specs.declared.noted.DownCause.TheVariants as cause
use Rattle.fx_sources.specs.Patterns.{patterns}
use Rattle.fx_sources.specs.Probes.{Entry, missing}
use Rattle.fx_spelling.specs.Units.{IsFit}
use Rattle.fx_terms.specs.declared.patterns.Pattern.{Pattern}
use Rattle.fx_traffic.specs.Batches.{IsSized, unit_sent}
use Rattle.fx_traffic.specs.Gains.{Tell, faults_at}
use Rattle.fx_traffic.specs.Sent.{Sent}
use Rattle.fx_wire.specs.Exchanges.{Exchange, Seen}
use Rattle.std.proofs.Common.{zero, suc}
use Rattle.std.specs.List.{zip}
use Rattle.std.specs.Prelude.{◌≡◌, ◌<◌, ◌+◌, ◌⊎◌, ◌++◌, ◌∷◌, ℕ, Bool, List, [], All, Contains, Some, length, slice_get}
use Rattle.fx_outcomes.specs.Mediation.{IsMissing, HasLongAsk, AtNamed}

-- ---- one of the query's batches

-- the patterns of the runs among stations that stand before an occurrence of SERVICE, which has this number among theirs, from 0
abbrev pub patterns_before : ℕ → List Station → List Pattern
patterns_before k [] = []
patterns_before k (station.run ps filters before ∷ stations) = ps ++ patterns_before k stations
patterns_before zero (station.service number silent iri g ∷ stations) = []
patterns_before (suc k) (station.service number silent iri g ∷ stations) = patterns_before k stations

-- a unit that can be asked for, of the query's patterns outside SERVICE
pub record IsUnitOf (q : Query) (u : unit.Unit) : Type 0 where
  pub fit : IsFit u
  pub of_query : All (Contains (patterns q)) u.patterns

-- one of the patterns that stand before each occurrence of SERVICE that was refused
pub record IsUnitBefore (q : Query) (calls : List Call) (u : unit.Unit) : Type 0 where
  pub of_query : IsUnitOf q u
  pub before : (k : ℕ) (c : Call) → slice_get calls k ≡ Some c → IsRefused c → All (Contains (patterns_before k (stations q))) u.patterns

-- a batch that an endpoint is asked for, of such a unit, of no more rows than so many
pub record IsBatchFor (endpoints : List EndpointParts) (q : Query) (calls : List Call) (block : ℕ) (e : EndpointParts) (u : unit.Unit) (batch : List Row) : Type 0 where
  pub of_query : IsUnitBefore q calls u
  pub sized : IsSized block batch
  pub at : ℕ
  pub member : Contains u.members at
  pub found : slice_get endpoints at ≡ Some e

-- one of the exchanges has a bad reply to a batch
pub record HasBadBatch (before : List Seen) (endpoints : List EndpointParts) (q : Query) (calls : List Call) (block : ℕ) (e : EndpointParts) (xs : List Exchange) (bad : BadReply) : Type 0 where
  pub unit : unit.Unit
  pub batch : List Row
  pub asked : IsBatchFor endpoints q calls block e unit batch
  pub is_bad : IsBadBatch (Tell before e.iri) e (record { unit = unit; rows = batch }) xs bad

-- the text of a batch, which is among those that are wanted of the query, is too long
pub record HasLongBatch (endpoints : List EndpointParts) (q : Query) (calls : List Call) (block : ℕ) (e : EndpointParts) (texts : List Sent) (size : ℕ) : Type 0 where
  pub unit : unit.Unit
  pub batch : List Row
  pub asked : IsBatchFor endpoints q calls block e unit batch
  pub allowed : (x : Sent) → Contains (unit_sent endpoints unit batch) x → Contains texts x
  pub is_long : IsLongBatch e (record { unit = unit; rows = batch }) size

-- ---- ASKs

-- to an ASK
abbrev pub HasBadAsk : List Seen → List EndpointParts → Query → List Entry → EndpointParts → List Exchange → BadReply → Type 0
HasBadAsk before endpoints q entries e xs bad = (p : Probe) × IsMissing endpoints q entries e p × IsBadAsk (Tell before e.iri) e p xs bad

-- Why there is no plan, at the endpoint that the refusal names: its faults rose; a reply of it to an ASK is bad, which one of the exchanges has; an
-- ASK for it is too long. Where a SERVICE is unknown nothing was asked.
abbrev pub HasPlanCause : List Seen → List Seen → List EndpointParts → Query → List Entry → List Exchange → FedError → Type 0
HasPlanCause before after endpoints q entries xs (fed.Member name) = (0 < length (patterns q)) × AtNamed endpoints name (λ e. faults_at before e.iri < faults_at after e.iri)
HasPlanCause before after endpoints q entries xs (fed.Service iri) = ⊥
HasPlanCause before after endpoints q entries xs (fed.BadReply name bad) = AtNamed endpoints name (λ e. HasBadAsk before endpoints q entries e xs bad)
HasPlanCause before after endpoints q entries xs (fed.RequestTooLong name size) = AtNamed endpoints name (λ e. HasLongAsk endpoints q entries e size)
HasPlanCause before after endpoints q entries xs (fed.UnknownService iri) = (after ≡ before) × (xs ≡ [])
HasPlanCause before after endpoints q entries xs fed.Memory = Unit {0}

-- Why there is no answer: such a cause; or so it is of a batch of no more rows than so many, of a run before each occurrence of SERVICE that was refused; or the first of these
-- occurrences that was refused, before which all passed, has no rows for that reason, at the endpoint that has its IRI as its address. The exchanges are those
-- beside the occurrences' own. Where a SERVICE is unknown none was invoked.
abbrev pub HasFedCause : List Seen → List Seen → List EndpointParts → Query → List Entry → List Call → List Call → List Sent → List Exchange → ℕ → FedError → Type 0
HasFedCause before after endpoints q entries calls plain texts xs block (fed.Member name) = (0 < length (patterns q)) × AtNamed endpoints name (λ e. faults_at before e.iri < faults_at after e.iri)
HasFedCause before after endpoints q entries calls plain texts xs block (fed.Service iri) =
    HasFirstRefused plain cause.Failed iri × ((e : EndpointParts) × Contains endpoints e × (e.iri ≡ iri)) × (faults_at before iri < faults_at after iri)
HasFedCause before after endpoints q entries calls plain texts xs block (fed.BadReply name bad) =
    AtNamed endpoints name (λ e. HasBadAsk before endpoints q entries e xs bad ⊎ (HasBadBatch before endpoints q calls block e xs bad ⊎ HasFirstRefused plain (cause.Bad bad) e.iri))
HasFedCause before after endpoints q entries calls plain texts xs block (fed.RequestTooLong name size) =
    AtNamed endpoints name (λ e. HasLongAsk endpoints q entries e size ⊎ (HasLongBatch endpoints q calls block e texts size ⊎ HasFirstRefused plain (cause.TooLong size) e.iri))
HasFedCause before after endpoints q entries calls plain texts xs block (fed.UnknownService iri) = (after ≡ before) × (xs ≡ []) × (calls ≡ [])
HasFedCause before after endpoints q entries calls plain texts xs block fed.Memory = Unit {0}

-- ---- causes

-- Where an endpoint is named as failed it is not for an occurrence of SERVICE. Either none was invoked, its faults rose, and one of the ASKs for it that the entries lack is
-- left of what was wanted.
abbrev pub FailedAtAsk : List Seen → List Seen → List EndpointParts → Query → List Entry → List Call → List Sent → FedError → Type 0
FailedAtAsk before after endpoints q entries calls left (fed.Member name) =
    (calls ≡ []) × AtNamed endpoints name (λ e. (faults_at before e.iri < faults_at after e.iri) × HasAskLeft endpoints (missing q (length endpoints) entries) left e)
FailedAtAsk before after endpoints q entries calls left (fed.Service iri) = Unit {0}
FailedAtAsk before after endpoints q entries calls left (fed.BadReply name bad) = Unit {0}
FailedAtAsk before after endpoints q entries calls left (fed.RequestTooLong name size) = Unit {0}
FailedAtAsk before after endpoints q entries calls left (fed.UnknownService iri) = Unit {0}
FailedAtAsk before after endpoints q entries calls left fed.Memory = Unit {0}

-- ---- ASKs come first

-- each of the probes has an answer, which one of these exchanges tells
pub record AreAnswered (endpoints : List EndpointParts) (probes : List Probe) (xs : List Exchange) : Type 0 where
  pub truths : List Bool
  pub many : length truths ≡ length probes
  pub answered : All (IsAnsweredBy endpoints xs) (zip probes truths)

-- ASKs come first: no occurrence of SERVICE was invoked and no text of a batch was wanted, or each probe has its answer
abbrev pub AsksComeFirst : List EndpointParts → List Probe → List Call → List Sent → List Exchange → Type 0
AsksComeFirst endpoints probes calls texts xs = ((calls ≡ []) × (texts ≡ [])) ⊎ AreAnswered endpoints probes xs
