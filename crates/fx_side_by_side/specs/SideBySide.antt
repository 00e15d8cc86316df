-- What several runs, asked for over wires side by side, give, and what that leaves of these.
use Rattle.std.specs.Prelude.{◌≡◌, ◌<◌, ◌≤◌, ◌+◌, ℕ, Bool, List, [], ◌∷◌, All, Contains, IfErr, IfOk, IsPermutation, IsTrue, Result, Ok, Err, length, sum_by}
use Rattle.std.specs.List.{flat_map}
use Rattle.std.specs.declared.alloc.Global.{Global}
use Rattle.std.specs.declared.vec.Vec.{Vec}
use Rattle.fx_terms.specs.declared.allocation.Memory.{Memory}
use Rattle.fx_terms.specs.declared.triples.Triple.{Triple}
use Rattle.fx_outside.specs.Endpoints.{EndpointParts}
use Rattle.fx_algebra.specs.Graphs.{union}
use Rattle.fx_algebra.specs.Groups.{one_empty}
use Rattle.fx_algebra.specs.declared.units.Row.{Row}
use Rattle.fx_algebra.specs.declared.units.Unit as unit
use Rattle.fx_spelling.specs.Units.{IsFit, IsSound}
use Rattle.fx_steps.specs.Steps.{numbered, stepped}
use Rattle.fx_traffic.specs.Batches.{IsBatchText, IsRunSent}
use Rattle.fx_traffic.specs.Gains.{AreAfter, HaveGained, IsMemberIn, TellOf, WiresSeen, faults_at}
use Rattle.fx_traffic.specs.Sent.{Sent, Sends}
use Rattle.fx_wire.specs.Exchanges.{Exchange, Seen}
use Rattle.fx_pool.specs.Runs.{IsHonestOver}
use Rattle.fx_flows.specs.Flows.{IsBatchRead, IsShort}
use Rattle.fx_flows.specs.RunFlows.{HasFlowCause}
use Rattle.fx_flows.specs.declared.flows.FlowError.{FlowError}

-- units that can be asked for: there is one, they are fit, and their members are endpoints
pub record CanAsk (count : ℕ) (units : List unit.Unit) : Type 0 where
  pub some : 0 < length units
  pub fit : All IsFit units
  pub within : All (λ u. All (λ at. at < count) u.members) units

-- the part of one of several runs in what was asked for: its exchanges, how many failed, what was wanted for it, and what of that wasn't sent
pub record Share : Type 0 where
  pub exchanges : List Exchange
  pub failed : ℕ
  pub wanted : List Sent
  pub left : List Sent

-- What one of several runs gave from these rows on that were asked for together, with its share, texts of batches of its units: with rows each text was sent, and each reply read, without a
-- fault. No text was sent that is longer than one may be, and no more exchanges failed than there are wires.
pub record RunShared (before after : List Seen) (endpoints : List EndpointParts) (us : List unit.Unit) (block : ℕ) (rows : List Row) (share : Share) (result : Result (List Row) FlowError) : Type 0 where
  pub few : share.failed ≤ length before
  pub unfailed : IfOk result (λ _. share.failed ≡ 0)
  pub sent : Sends share.wanted share.left share.exchanges
  pub of_batches : All (IsBatchText endpoints block (Contains us)) share.wanted
  pub whole : IfOk result (λ _. share.left ≡ [])
  pub short : All IsShort share.exchanges
  pub faultless : IfOk result (λ _. All (IsBatchRead (Contains us)) share.exchanges)
  pub of_run : (graphs : List (List Triple)) → TellOf before endpoints graphs (IsMemberIn us) → All (IsSound graphs) us → IsRunSent endpoints (union graphs) block 1 us rows share.wanted
  pub done : IfOk result (λ next. (graphs : List (List Triple)) → TellOf before endpoints graphs (IsMemberIn us) → All (IsSound graphs) us → IsPermutation next (stepped (union graphs) us rows))
  pub cause : IfErr result (HasFlowCause before after endpoints us block share.wanted share.exchanges)

-- each of the runs, from the one empty solution on
abbrev pub AreShared : List Seen → List Seen → List EndpointParts → ℕ → List (List unit.Unit) → List Share → List (Result (List Row) FlowError) → Type 0
AreShared before after endpoints block [] [] [] = Unit {0}
AreShared before after endpoints block (us ∷ runs) (share ∷ shares) (result ∷ results) =
    RunShared before after endpoints us block (numbered 0 one_empty) share result × AreShared before after endpoints block runs shares results
AreShared before after endpoints block runs shares results = ⊥

-- Several runs were asked for over wires, each from the one empty solution on: what these exchanged, one wire's part behind the other's, has a share for each run. If wires count each address
-- alone, at each address no more faults were counted, together, than exchanges failed.
pub record RunsFlowed (tells alone : Bool) (before after : List Seen) (endpoints : List EndpointParts) (runs : List (List unit.Unit)) (block : ℕ) (results : List (Result (List Row) FlowError)) : Type 0 where
  pub exchanges : List Exchange
  pub gained : IsTrue tells → HaveGained before after exchanges
  pub honest : All (IsHonestOver before) exchanges
  pub after_all : AreAfter before after
  pub shares : List Share
  pub parted : IsPermutation (flat_map (λ s. s.exchanges) shares) exchanges
  pub counted : IsTrue alone → (address : List ℕ) → faults_at after address ≤ faults_at before address + sum_by (λ s. s.failed) shares
  pub each : AreShared before after endpoints block runs shares results

-- the results of all, where there is memory for their list
pub record SideBySide (tells alone : Bool) (before after : List Seen) (endpoints : List EndpointParts) (runs : List (List unit.Unit)) (block : ℕ) (result : Result (List (Result (List Row) FlowError)) Memory) : Type 0 where
  pub results : List (Result (List Row) FlowError)
  pub flowed : RunsFlowed tells alone before after endpoints runs block results
  pub given : IfOk result (λ given. given ≡ results)

abbrev pub RunsFlowedOver : WiresSeen → List EndpointParts → List (List unit.Unit) → ℕ → List (Result (List Row) FlowError) → Type 0
RunsFlowedOver w endpoints runs block results = RunsFlowed w.tells w.alone w.before w.after endpoints runs block results

abbrev pub SideBySideOver : WiresSeen → List EndpointParts → List (List unit.Unit) → ℕ → Result (List (Result (List Row) FlowError)) Memory → Type 0
SideBySideOver w endpoints runs block result = SideBySide w.tells w.alone w.before w.after endpoints runs block result

-- the results as a list
abbrev pub results_in : Result (Vec (Result (List Row) FlowError) Global) Memory → Result (List (Result (List Row) FlowError)) Memory
results_in (Ok results) = Ok results.items
results_in (Err e) = Err e
