-- Which endpoint a call in rounds names as failed.
use Rattle.std.specs.Prelude.{◌≡◌, ◌<◌, ◌≤◌, ◌+◌, ◌++◌, ℕ, false, List, [], map, Contains, Err, IsPermutation, IsTrue}
use Rattle.fx_outside.specs.Endpoints.{EndpointParts}
use Rattle.fx_algebra.specs.declared.queries.Query.{Query}
use Rattle.fx_services.specs.declared.noted.DownCause.TheVariants as cause
use Rattle.fx_sources.specs.Probes.{Entry}
use Rattle.fx_traffic.specs.Gains.{AreAfter, HaveGained, WiresSeen, faults_at}
use Rattle.fx_wire.specs.Exchanges.{Exchange, Seen}
use Rattle.fx_outcomes.specs.Calls.{AreCalls, Call, HasFirstRefused, failures_at, occurrences}
use Rattle.fx_outcomes.specs.InRounds.{FederatedInRounds, PlannedInRounds}
use Rattle.fx_outcomes.specs.Mediation.{AtNamed}
use Rattle.fx_outcomes.specs.Outcomes.{AllTell}
use Rattle.fx_outcomes.specs.declared.federated.FedError.TheVariants as fed

-- it is the name of an endpoint that mustn't be left out, and the count of faults at its address rose
abbrev pub RequiredFailed : WiresSeen → List EndpointParts → List ℕ → Type 0
RequiredFailed w endpoints name = AtNamed endpoints name (λ e. (e.optional ≡ false) × (faults_at w.before e.iri < faults_at w.after e.iri))

-- The exchange for an occurrence without SILENT of this IRI failed in the last round, and it is the first in text order that is refused: each occurrence of the query came to what it did by its own
-- exchanges alone, which are some of those that were made since, all before it have rows or are silent, and no address has more failed exchanges than its count of faults rose by.
pub record IsFirstFailed (w : WiresSeen) (endpoints : List EndpointParts) (asked : Query) (iri : List ℕ) : Type 0 where
  pub calls : List Call
  pub all_called : map (λ c. c.of) calls ≡ occurrences asked
  pub first : HasFirstRefused calls cause.Failed iri
  pub since : List Seen
  pub began : AreAfter w.before since
  pub exchanges : List Exchange
  pub gained : IsTrue w.tells → HaveGained since w.after exchanges
  pub own : List Exchange
  pub others : List Exchange
  pub parted : IsPermutation (others ++ own) exchanges
  pub come_to : AreCalls since endpoints calls own
  pub counted : (address : List ℕ) → faults_at since address + failures_at address calls ≤ faults_at w.after address

-- the address is that of an endpoint, and its count of faults rose
abbrev pub RoseAt : WiresSeen → List EndpointParts → List ℕ → Type 0
RoseAt w endpoints iri = ((e : EndpointParts) × Contains endpoints e × (e.iri ≡ iri)) × (faults_at w.before iri < faults_at w.after iri)

-- ---- the laws

abbrev pub MembersFailed : Type 0
MembersFailed = (w : WiresSeen) (endpoints : List EndpointParts) (asked : Query) (new : List Entry) (block : ℕ) (name : List ℕ)
    → FederatedInRounds w.tells w.alone w.before w.after endpoints asked [] new block (Err (fed.Member name)) → RequiredFailed w endpoints name

abbrev pub ServicesFailed : Type 0
ServicesFailed = (w : WiresSeen) (endpoints : List EndpointParts) (asked : Query) (new : List Entry) (block : ℕ) (iri : List ℕ)
    → AllTell w.tells w.before → FederatedInRounds w.tells w.alone w.before w.after endpoints asked [] new block (Err (fed.Service iri))
    → RoseAt w endpoints iri × IsFirstFailed w endpoints asked iri

abbrev pub PlanMembersFailed : Type 0
PlanMembersFailed = (w : WiresSeen) (endpoints : List EndpointParts) (asked : Query) (new : List Entry) (name : List ℕ)
    → PlannedInRounds w.tells w.alone w.before w.after endpoints asked [] new (Err (fed.Member name)) → RequiredFailed w endpoints name

-- no plan is refused for a SERVICE that failed
abbrev pub NoPlanServiceFails : Type 0
NoPlanServiceFails = (w : WiresSeen) (endpoints : List EndpointParts) (asked : Query) (new : List Entry) (iri : List ℕ)
    → PlannedInRounds w.tells w.alone w.before w.after endpoints asked [] new (Err (fed.Service iri)) → ⊥
