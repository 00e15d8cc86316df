-- What asking over several wires side by side leaves of these, and what it gives: the members of a unit for one batch, and for each of several.
use Rattle.std.specs.Prelude.{◌≡◌, ◌<◌, ◌≤◌, ◌+◌, ◌++◌, ℕ, Bool, List, [], ◌∷◌, Some, IfOk, IfErr, IsTrue, All, Contains, IsPermutation, Result, Ok, Err, length, slice_get}
use Rattle.std.specs.List.{flat_map}
use Rattle.std.specs.declared.alloc.Global.{Global}
use Rattle.std.specs.declared.vec.Vec.{Vec}
use Rattle.fx_terms.specs.declared.triples.Triple.{Triple}
use Rattle.fx_outside.specs.Endpoints.{EndpointParts}
use Rattle.fx_algebra.specs.Graphs.{union}
use Rattle.fx_algebra.specs.Units.{step}
use Rattle.fx_algebra.specs.declared.units.Row.{Row}
use Rattle.fx_algebra.specs.declared.units.Unit as unit
use Rattle.fx_spelling.specs.Units.{IsSound}
use Rattle.fx_bound.specs.Answers.{numbers}
use Rattle.fx_bound.specs.Parts.{Parts}
use Rattle.fx_founds.specs.declared.founds.Found.{Found}
use Rattle.fx_traffic.specs.Batches.{batches_sent, joined, member_sent, unit_sent}
use Rattle.fx_traffic.specs.Gains.{AreAfter, HaveGained, Tell, TellOf, WiresSeen, faults_at}
use Rattle.fx_traffic.specs.Sent.{Sent, Sends}
use Rattle.fx_wire.specs.Exchanges.{Exchange, Seen}
use Rattle.fx_flows.specs.Flows.{AreToldOf, AskedBatch, IsBatchRead, IsCause, IsReadFor, IsShort, Names}
use Rattle.fx_flows.specs.InPart.{AreSentInPart}
use Rattle.fx_flows.specs.RunLaws.{AllTell}
use Rattle.fx_pool.specs.Runs.{IsHonestOver}
use Rattle.fx_flows.specs.declared.flows.FlowError.{FlowError}
use Rattle.fx_flows.specs.declared.flows.FlowError.TheVariants as flow

-- ---- causes

-- why members have no rows for a batch: the cause at one of them, which the refusal names
pub record IsAskedCause (before after : List Seen) (endpoints : List EndpointParts) (p : Parts) (members : List ℕ) (xs : List Exchange) (e : FlowError) : Type 0 where
  pub at : ℕ
  pub member : Contains members at
  pub endpoint : EndpointParts
  pub found : slice_get endpoints at ≡ Some endpoint
  pub named : Names at e
  pub cause : IsCause (faults_at before endpoint.iri < faults_at after endpoint.iri) (Tell before endpoint.iri) endpoint p xs e

-- want of memory has none
abbrev pub HasAskedCause : List Seen → List Seen → List EndpointParts → Parts → List ℕ → List Exchange → FlowError → Type 0
HasAskedCause before after endpoints p members xs flow.Memory = Unit {0}
HasAskedCause before after endpoints p members xs e = IsAskedCause before after endpoints p members xs e

-- ---- the members of a unit

-- Members were asked for a batch over wires: each text was sent once at most, and once with what was found. No more exchanges failed than there are wires.
pub record MembersAsked (tells alone : Bool) (before after : List Seen) (endpoints : List EndpointParts) (p : Parts) (members : List ℕ) (result : Result (List (List Found)) FlowError) : Type 0 where
  pub exchanges : List Exchange
  pub gained : IsTrue tells → HaveGained before after exchanges
  pub honest : All (IsHonestOver before) exchanges
  pub after_all : AreAfter before after
  pub failed : ℕ
  pub few : failed ≤ length before
  pub unfailed : IfOk result (λ _. failed ≡ 0)
  pub counted : IsTrue alone → (address : List ℕ) → faults_at after address ≤ faults_at before address + failed
  pub left : List Sent
  pub sent : Sends (flat_map (member_sent endpoints p.unit p.rows) members) left exchanges
  pub numbered : IfOk result (λ lists. All (λ list. All (λ f. Contains (numbers p) f.branch) list) lists)
  pub whole : IfOk result (λ _. left ≡ [])
  pub short : All IsShort exchanges
  pub faultless : IfOk result (λ _. All (IsReadFor p) exchanges)
  pub read : IfOk result (λ lists. (graphs : List (List Triple)) → TellOf before endpoints graphs (Contains members) → AreToldOf graphs p members lists)
  pub cause : IfErr result (HasAskedCause before after endpoints p members exchanges)

abbrev pub MembersAskedOver : WiresSeen → List EndpointParts → Parts → List ℕ → Result (List (List Found)) FlowError → Type 0
MembersAskedOver w endpoints p members result = MembersAsked w.tells w.alone w.before w.after endpoints p members result

-- the lists of two calls, one's behind the other's; or the refusal of the first, or of the second, or want of memory for the list
abbrev pub AreListsOfBoth : Result (Vec (List Found) Global) FlowError → Result (Vec (List Found) Global) FlowError → Result (Vec (List Found) Global) FlowError → Type 0
AreListsOfBoth (Ok ours) (Ok theirs) (Ok all) = all.items ≡ ours.items ++ theirs.items
AreListsOfBoth (Ok ours) (Ok theirs) (Err e) = e ≡ flow.Memory
AreListsOfBoth (Ok ours) (Err why) result = result ≡ Err why
AreListsOfBoth (Err why) theirs result = result ≡ Err why

-- ---- a batch

-- the members of a unit were asked for a batch: the rows are what the unit makes of it, where graphs are told and the unit is sound
pub record BatchAsked (tells alone : Bool) (before after : List Seen) (endpoints : List EndpointParts) (p : Parts) (result : Result (List Row) FlowError) : Type 0 where
  pub exchanges : List Exchange
  pub gained : IsTrue tells → HaveGained before after exchanges
  pub honest : All (IsHonestOver before) exchanges
  pub after_all : AreAfter before after
  pub failed : ℕ
  pub few : failed ≤ length before
  pub unfailed : IfOk result (λ _. failed ≡ 0)
  pub counted : IsTrue alone → (address : List ℕ) → faults_at after address ≤ faults_at before address + failed
  pub left : List Sent
  pub sent : Sends (unit_sent endpoints p.unit p.rows) left exchanges
  pub whole : IfOk result (λ _. left ≡ [])
  pub short : All IsShort exchanges
  pub faultless : IfOk result (λ _. All (IsReadFor p) exchanges)
  pub done : IfOk result (λ rows. (graphs : List (List Triple)) → TellOf before endpoints graphs (Contains p.unit.members) → IsSound graphs p.unit → IsPermutation rows (step (union graphs) p.unit p.rows))
  pub cause : IfErr result (HasAskedCause before after endpoints p p.unit.members exchanges)

abbrev pub BatchAskedOver : WiresSeen → List EndpointParts → Parts → Result (List Row) FlowError → Type 0
BatchAskedOver w endpoints p result = BatchAsked w.tells w.alone w.before w.after endpoints p result

-- ---- a step

-- why there are no rows for batches: the cause at one of these
pub record IsStepCause (before after : List Seen) (endpoints : List EndpointParts) (u : unit.Unit) (batches : List (List Row)) (xs : List Exchange) (e : FlowError) : Type 0 where
  pub batch : List Row
  pub among : Contains batches batch
  pub asked : IsAskedCause before after endpoints (record { unit = u; rows = batch }) u.members xs e

abbrev pub HasStepCause : List Seen → List Seen → List EndpointParts → unit.Unit → List (List Row) → List Exchange → FlowError → Type 0
HasStepCause before after endpoints u batches xs flow.Memory = Unit {0}
HasStepCause before after endpoints u batches xs e = IsStepCause before after endpoints u batches xs e

-- the members of a unit were asked for each of these batches
pub record StepAsked (tells alone : Bool) (before after : List Seen) (endpoints : List EndpointParts) (u : unit.Unit) (batches : List (List Row)) (result : Result (List Row) FlowError) : Type 0 where
  pub exchanges : List Exchange
  pub gained : IsTrue tells → HaveGained before after exchanges
  pub honest : All (IsHonestOver before) exchanges
  pub after_all : AreAfter before after
  pub failed : ℕ
  pub few : failed ≤ length before
  pub unfailed : IfOk result (λ _. failed ≡ 0)
  pub counted : IsTrue alone → (address : List ℕ) → faults_at after address ≤ faults_at before address + failed
  pub left : List Sent
  pub sent : Sends (batches_sent endpoints u batches) left exchanges
  pub in_part : AreSentInPart endpoints (length before) (batches_sent endpoints u batches) exchanges
  pub whole : IfOk result (λ _. left ≡ [])
  pub short : All IsShort exchanges
  pub faultless : IfOk result (λ _. All (IsBatchRead (λ v. v ≡ u)) exchanges)
  pub done : IfOk result (λ rows. (graphs : List (List Triple)) → TellOf before endpoints graphs (Contains u.members) → IsSound graphs u → IsPermutation rows (step (union graphs) u (joined batches)))
  pub cause : IfErr result (HasStepCause before after endpoints u batches exchanges)

abbrev pub StepAskedOver : WiresSeen → List EndpointParts → unit.Unit → List (List Row) → Result (List Row) FlowError → Type 0
StepAskedOver w endpoints u batches result = StepAsked w.tells w.alone w.before w.after endpoints u batches result

-- ---- a law

-- over one wire it is as if its members were asked one after another
abbrev pub OverOneWire : Type 0
OverOneWire = (alone : Bool) (before after : Seen) (endpoints : List EndpointParts) (p : Parts) (result : Result (List Row) FlowError)
    → after.tells_log ≡ before.tells_log
    → BatchAsked before.tells_log alone (before ∷ []) (after ∷ []) endpoints p result
    → AskedBatch alone before after endpoints p result

-- the batches of a step, some of them and then the others
abbrev pub StepInTurn : Type 0
StepInTurn = (tells alone : Bool) (before between after : List Seen) (endpoints : List EndpointParts) (u : unit.Unit) (first others : List (List Row)) (made more : List Row)
    → AllTell tells before
    → AllTell tells between
    → StepAsked tells alone before between endpoints u first (Ok made)
    → StepAsked tells alone between after endpoints u others (Ok more)
    → StepAsked tells alone before after endpoints u (first ++ others) (Ok (made ++ more))

abbrev pub StepRefusedLater : Type 0
StepRefusedLater = (tells alone : Bool) (before between after : List Seen) (endpoints : List EndpointParts) (u : unit.Unit) (first others : List (List Row)) (made : List Row) (why : FlowError)
    → AllTell tells before
    → AllTell tells between
    → StepAsked tells alone before between endpoints u first (Ok made)
    → StepAsked tells alone between after endpoints u others (Err why)
    → StepAsked tells alone before after endpoints u (first ++ others) (Err why)

abbrev pub StepRefused : Type 0
StepRefused = (tells alone : Bool) (before after : List Seen) (endpoints : List EndpointParts) (u : unit.Unit) (first others : List (List Row)) (why : FlowError)
    → StepAsked tells alone before after endpoints u first (Err why)
    → StepAsked tells alone before after endpoints u (first ++ others) (Err why)

pub record TeamLaws : Type 0 where
  pub one_wire : OverOneWire
  pub in_turn : StepInTurn
  pub refused_later : StepRefusedLater
  pub refused : StepRefused
