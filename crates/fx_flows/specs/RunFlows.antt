-- What the units of a run, asked for over wires, give, and what that leaves of these.
use Rattle.std.specs.Prelude.{◌≡◌, ◌<◌, ◌≤◌, ◌+◌, ℕ, Bool, List, [], length, IfOk, IfErr, IsTrue, All, Contains, IsPermutation, Some, Result, slice_get}
use Rattle.fx_terms.specs.declared.triples.Triple.{Triple}
use Rattle.fx_outside.specs.Endpoints.{EndpointParts}
use Rattle.fx_algebra.specs.Graphs.{union}
use Rattle.fx_algebra.specs.declared.units.Row.{Row}
use Rattle.fx_algebra.specs.declared.units.Unit as unit
use Rattle.fx_spelling.specs.Units.{IsSound}
use Rattle.fx_steps.specs.Steps.{stepped}
use Rattle.fx_traffic.specs.Batches.{IsBatchText, IsRunSent, IsSized, unit_sent}
use Rattle.fx_traffic.specs.Gains.{AreAfter, HaveGained, IsMemberIn, Tell, TellOf, WiresSeen, faults_at}
use Rattle.fx_traffic.specs.Sent.{Sent, Sends}
use Rattle.fx_wire.specs.Exchanges.{Exchange, Seen}
use Rattle.fx_flows.specs.Flows.{IsBatchRead, IsCause, IsShort, Names}
use Rattle.fx_flows.specs.InPart.{AreSentInPart}
use Rattle.fx_pool.specs.Runs.{IsHonestOver}
use Rattle.fx_flows.specs.declared.flows.FlowError.{FlowError}
use Rattle.fx_flows.specs.declared.flows.FlowError.TheVariants as flow

-- Why there are no rows, at the endpoint that the refusal names: the cause at a batch for it of a unit of the run, of no more rows than so
-- many, whose texts are among those wanted.
pub record IsFlowCause (before after : List Seen) (endpoints : List EndpointParts) (us : List unit.Unit) (block : ℕ) (wanted : List Sent) (xs : List Exchange) (e : FlowError) : Type 0 where
  pub unit : unit.Unit
  pub of_run : Contains us unit
  pub batch : List Row
  pub sized : IsSized block batch
  pub allowed : (x : Sent) → Contains (unit_sent endpoints unit batch) x → Contains wanted x
  pub at : ℕ
  pub member : Contains unit.members at
  pub endpoint : EndpointParts
  pub found : slice_get endpoints at ≡ Some endpoint
  pub named : Names at e
  pub cause : IsCause (faults_at before endpoint.iri < faults_at after endpoint.iri) (Tell before endpoint.iri) endpoint (record { unit = unit; rows = batch }) xs e

-- want of memory has none
abbrev pub HasFlowCause : List Seen → List Seen → List EndpointParts → List unit.Unit → ℕ → List Sent → List Exchange → FlowError → Type 0
HasFlowCause before after endpoints us block wanted xs flow.Memory = Unit {0}
HasFlowCause before after endpoints us block wanted xs e = IsFlowCause before after endpoints us block wanted xs e

-- The units of a run were asked for over wires, from these rows on: what these exchanged, one wire's part behind the other's, what was
-- wanted of it, texts of batches of these units, and the rows behind the last unit: with rows each text was sent, and each reply read, without a fault. No text was sent that is longer than one may be. If wires count each
-- address alone, at each address no more faults were counted, together, than there are wires, and none with rows.
pub record RunFlowed (tells alone : Bool) (before after : List Seen) (endpoints : List EndpointParts) (us : List unit.Unit) (block : ℕ) (rows : List Row) (result : Result (List Row) FlowError) : Type 0 where
  pub exchanges : List Exchange
  pub gained : IsTrue tells → HaveGained before after exchanges
  pub honest : All (IsHonestOver before) exchanges
  pub after_all : AreAfter before after
  pub failed : ℕ
  pub few : failed ≤ length before
  pub unfailed : IfOk result (λ _. failed ≡ 0)
  pub counted : IsTrue alone → (address : List ℕ) → faults_at after address ≤ faults_at before address + failed
  pub wanted : List Sent
  pub left : List Sent
  pub sent : Sends wanted left exchanges
  pub of_batches : All (IsBatchText endpoints block (Contains us)) wanted
  pub in_part : AreSentInPart endpoints (length before) wanted exchanges
  pub whole : IfOk result (λ _. left ≡ [])
  pub short : All IsShort exchanges
  pub faultless : IfOk result (λ _. All (IsBatchRead (Contains us)) exchanges)
  pub of_run : (graphs : List (List Triple)) → TellOf before endpoints graphs (IsMemberIn us) → All (IsSound graphs) us → IsRunSent endpoints (union graphs) block 1 us rows wanted
  pub done : IfOk result (λ next. (graphs : List (List Triple)) → TellOf before endpoints graphs (IsMemberIn us) → All (IsSound graphs) us → IsPermutation next (stepped (union graphs) us rows))
  pub cause : IfErr result (HasFlowCause before after endpoints us block wanted exchanges)

abbrev pub RunFlowedOver : WiresSeen → List EndpointParts → List unit.Unit → ℕ → List Row → Result (List Row) FlowError → Type 0
RunFlowedOver w endpoints us block rows result = RunFlowed w.tells w.alone w.before w.after endpoints us block rows result
