-- What workers did with the parcels of a run: what they finished, what they were at when they ended, and what their wires exchanged.
use Rattle.std.specs.Prelude.{◌≡◌, ◌<◌, ◌≤◌, ◌+◌, ◌++◌, ◌⊎◌, ℕ, Bool, false, true, List, [], ◌∷◌, Option, Some, None, IfOk, IfErr, IsTrue, All, Contains, IsPermutation, Result, Ok, Err, length, slice_get, sum_by}
use Rattle.std.specs.declared.alloc.Global.{Global}
use Rattle.std.specs.declared.vec.Vec.{Vec}
use Rattle.fx_terms.specs.declared.allocation.Memory.{Memory}
use Rattle.fx_terms.specs.declared.triples.Triple.{Triple}
use Rattle.fx_outside.specs.Endpoints.{EndpointParts, is_sendable}
use Rattle.fx_algebra.specs.Graphs.{union}
use Rattle.fx_algebra.specs.declared.units.Row.{Row}
use Rattle.fx_algebra.specs.declared.units.Unit as unit
use Rattle.fx_spelling.specs.Units.{IsFit, IsSound}
use Rattle.fx_traffic.specs.Batches.{AreCut}
use Rattle.fx_traffic.specs.Gains.{AreAfter, HaveGained, IsMemberIn, TellOf, WiresSeen, faults_at}
use Rattle.fx_traffic.specs.Sent.{Sent, Sends}
use Rattle.fx_wire.specs.Exchanges.{Exchange, Seen}
use Rattle.fx_flows.specs.Flows.{AreTold, HasMemberCause, IsBatchRead, IsShort, Passed}
use Rattle.fx_flows.specs.Lines.{IsOf, hand}
use Rattle.fx_flows.specs.Parcels.{Finished, IsFinished, IsParcelOf, IsStepOf, SameParcels, created, made, made_at, of_finished, parcels, parcels_sent}
use Rattle.fx_flows.specs.RunFlows.{HasFlowCause}
use Rattle.fx_pool.specs.Runs.{IsHonestOver}
use Rattle.fx_flows.specs.declared.flows.FlowError.{FlowError}
use Rattle.fx_flows.specs.declared.flows.FlowError.TheVariants as flow
use Rattle.fx_flows.specs.declared.lines.Hand.{Hand}
use Rattle.fx_flows.specs.declared.parcels.RunShape.{RunShape}
use Rattle.fx_flows.specs.declared.parcels.Parcel.{Parcel}

-- ---- what is followed

-- parcels of a run can be followed: it has these units, a batch has room for a row and for 64 at most, the endpoints can be sent to, and units are fit and asked of these endpoints
pub record CanFollow (es : List EndpointParts) (us : List unit.Unit) (c : RunShape) : Type 0 where
  pub units : c.units ≡ length us
  pub positive : 0 < c.block
  pub most : c.block ≤ 64
  pub sendable : All (λ e. is_sendable e ≡ true) es
  pub fit : All IsFit us
  pub within : All (λ u. All (λ at. at < length es) u.members) us

-- ---- the balance of a worker

-- between two views of its pass: what it took, was given and made is what it put, finished, was at and held
abbrev pub IsEven : Hand → Hand → List Parcel → List Finished → List Parcel → List Parcel → Type 0
IsEven from to given spent tried held = (h : Parcel → ℕ)
    → ((sum_by h to.took + sum_by h from.put) + sum_by h given) + sum_by h (created spent) ≡ ((sum_by h to.put + sum_by h from.took) + sum_by h (of_finished spent)) + (sum_by h tried + sum_by h held)

-- ---- one wire

-- With one wire these were finished and those were tried, which a fault or want of memory ended. It went through what was exchanged for the finished ones first, without a fault: each of their
-- texts once to each member, and each reply read. Behind that it went through what was begun for those that were tried: each of their texts once at most.
pub record WireFlowed (alone : Bool) (before after : Seen) (es : List EndpointParts) (us : List unit.Unit) (c : RunShape) (from to : Hand) (given tried held : List Parcel) (rows : List Row) : Type 0 where
  pub exchanges : List Exchange
  pub ended : List Exchange
  pub begun : List Exchange
  pub parted : exchanges ≡ ended ++ begun
  pub between : Seen
  pub unfailed : Passed alone 0 before between ended
  pub failed : ℕ
  pub few : failed ≤ length tried
  pub stopped : Passed alone failed between after begun
  pub spent : List Finished
  pub finished : All (IsFinished c) spent
  pub of_run : All (IsParcelOf c) tried
  pub even : IsEven from to given spent tried held
  pub rows_are : rows ≡ made c spent
  pub sent : Sends (parcels_sent es us (of_finished spent)) [] ended
  pub left : List Sent
  pub tied : Sends (parcels_sent es us tried) left begun
  pub short : All IsShort exchanges
  pub faultless : All (IsBatchRead (Contains us)) ended
  pub steps : (graphs : List (List Triple)) → AreTold before.graph es graphs (IsMemberIn us) → All (IsSound graphs) us → All (IsStepOf (union graphs) us) spent

-- the cause at one of the parcels that were tried
pub record IsTriedCause (before after : Seen) (es : List EndpointParts) (us : List unit.Unit) (tried : List Parcel) (xs : List Exchange) (e : FlowError) : Type 0 where
  pub parcel : Parcel
  pub among : Contains tried parcel
  pub unit : unit.Unit
  pub found : slice_get us parcel.step ≡ Some unit
  pub cause : HasMemberCause before after es (record { unit = unit; rows = parcel.rows }) unit.members xs e

abbrev pub HasTriedCause : Seen → Seen → List EndpointParts → List unit.Unit → List Parcel → List Exchange → FlowError → Type 0
HasTriedCause before after es us tried xs flow.Memory = Unit {0}
HasTriedCause before after es us tried xs e = IsTriedCause before after es us tried xs e

-- ---- the next parcel

-- the one in hand, or one that was taken; none where the queue was empty, or, where the worker waits, the run is over, and the one in hand was put back
abbrev pub IsNext : Option Parcel → Bool → Hand → Hand → Option Parcel → Type 0
IsNext (Some q) waits from to (Some p) = (p ≡ q) × (to ≡ from)
IsNext (Some q) waits from to None = (waits ≡ true) × (to ≡ hand from.parts (Some q.shape) (from.put ++ q ∷ []) from.took)
IsNext None waits from to None = (to ≡ from) × (waits ≡ false → from.parts ≡ 16 → SameParcels from.put from.took)
IsNext None waits from to (Some p) = (to ≡ hand from.parts from.shape from.put (from.took ++ p ∷ [])) × IsOf from.shape p

-- ---- one parcel

-- what comes next is in hand
abbrev pub in_hand : Option Parcel → List Parcel
in_hand None = []
in_hand (Some p) = p ∷ []

-- a parcel was followed, and the rows that came behind the last unit joined those before
pub record Followed (alone : Bool) (before after : Seen) (es : List EndpointParts) (us : List unit.Unit) (c : RunShape) (from to : Hand) (p : Parcel) (was now : List Row) (result : Result (Option Parcel) FlowError) : Type 0 where
  pub tried : List Parcel
  pub one : length tried ≤ 1
  pub held : List Parcel
  pub rows : List Row
  pub did : WireFlowed alone before after es us c from to (p ∷ []) tried held rows
  pub ended : IfOk result (λ next. (tried ≡ []) × (held ≡ in_hand next) × (now ≡ was ++ rows) × All (IsParcelOf c) (in_hand next))
  pub cause : IfErr result (HasTriedCause did.between after es us tried did.begun)

-- The rows that were found for a parcel joined those behind the last unit, or were cut, put, and one batch of them kept in hand. Where memory ran out that was
-- done in part, or not begun.
pub record IsPassedOn (c : RunShape) (k : ℕ) (from to : Hand) (found was now : List Row) (result : Result (Option Parcel) Memory) : Type 0 where
  pub cut : List (List Row)
  pub finished : (k + 1 ≡ c.units → cut ≡ []) × (k + 1 < c.units → AreCut found c.block cut)
  pub held : List Parcel
  pub put : (h : Parcel → ℕ) → sum_by h to.put + sum_by h held ≡ sum_by h from.put + sum_by h (parcels c (k + 1) cut)
  pub took : to.took ≡ from.took
  pub ended : IfOk result (λ next. (held ≡ in_hand next) × (now ≡ was ++ made_at c k found) × All (IsParcelOf c) (in_hand next))

abbrev pub HasPassedOn : RunShape → ℕ → Hand → Hand → List Row → List Row → List Row → Result (Option Parcel) Memory → Type 0
HasPassedOn c k from to found was now (Ok next) = IsPassedOn c k from to found was now (Ok next)
HasPassedOn c k from to found was now (Err e) = (to ≡ from) ⊎ IsPassedOn c k from to found was now (Err e)

-- these parcels were put, and where memory ran out some are left
pub record ArePut (from to : Hand) (ps : List Parcel) (result : Result (Unit {0}) Memory) : Type 0 where
  pub lost : List Parcel
  pub put : (h : Parcel → ℕ) → sum_by h to.put + sum_by h lost ≡ sum_by h from.put + sum_by h ps
  pub took : to.took ≡ from.took
  pub parts : to.parts ≡ from.parts
  pub all : IfOk result (λ _. lost ≡ [])

-- what wasn't put is in hand
pub record IsPutButOne (c : RunShape) (k : ℕ) (from to : Hand) (batches : List (List Row)) (result : Result (Option Parcel) Memory) : Type 0 where
  pub held : List Parcel
  pub put : (h : Parcel → ℕ) → sum_by h to.put + sum_by h held ≡ sum_by h from.put + sum_by h (parcels c k batches)
  pub took : to.took ≡ from.took
  pub ended : IfOk result (λ next. (held ≡ in_hand next) × All (IsParcelOf c) (in_hand next))

-- ---- a worker

-- a worker followed parcels, with these rows behind the last unit, and nothing in hand
pub record HasFlowed (alone : Bool) (before after : Seen) (es : List EndpointParts) (us : List unit.Unit) (c : RunShape) (from to : Hand) (result : Result (Vec Row Global) FlowError) : Type 0 where
  pub tried : List Parcel
  pub one : length tried ≤ 1
  pub held : List Parcel
  pub rows : List Row
  pub did : WireFlowed alone before after es us c from to [] tried held rows
  pub ended : IfOk result (λ made. (tried ≡ []) × (held ≡ []) × (made.items ≡ rows))
  pub cause : IfErr result (HasTriedCause did.between after es us tried did.begun)

-- ---- several wires

-- the parts and the shape of a pass stay
abbrev pub IsSamePass : Hand → Hand → Type 0
IsSamePass from to = (to.parts ≡ from.parts) × (to.shape ≡ from.shape)

-- So it is of workers with several wires: what these exchanged, one wire's part behind the other's, is what was exchanged for the parcels that were finished, and what was begun for those that
-- were tried.
pub record WiresFlowed (tells alone : Bool) (before after : List Seen) (es : List EndpointParts) (us : List unit.Unit) (c : RunShape) (from to : Hand) (tried held : List Parcel) (rows : List Row) : Type 0 where
  pub exchanges : List Exchange
  pub gained : IsTrue tells → HaveGained before after exchanges
  pub honest : All (IsHonestOver before) exchanges
  pub after_all : AreAfter before after
  pub ended : List Exchange
  pub begun : List Exchange
  pub parted : IsPermutation (ended ++ begun) exchanges
  pub failed : ℕ
  pub few : failed ≤ length tried
  pub counted : IsTrue alone → (address : List ℕ) → faults_at after address ≤ faults_at before address + failed
  pub spent : List Finished
  pub finished : All (IsFinished c) spent
  pub of_run : All (IsParcelOf c) tried
  pub even : IsEven from to [] spent tried held
  pub rows_are : rows ≡ made c spent
  pub sent : Sends (parcels_sent es us (of_finished spent)) [] ended
  pub left : List Sent
  pub tied : Sends (parcels_sent es us tried) left begun
  pub short : All IsShort exchanges
  pub faultless : All (IsBatchRead (Contains us)) ended
  pub steps : (graphs : List (List Triple)) → TellOf before es graphs (IsMemberIn us) → All (IsSound graphs) us → All (IsStepOf (union graphs) us) spent

pub record HaveFlowed (tells alone : Bool) (before after : List Seen) (es : List EndpointParts) (us : List unit.Unit) (c : RunShape) (from to : Hand) (result : Result (Vec Row Global) FlowError) : Type 0 where
  pub tried : List Parcel
  pub one : length tried ≤ length before
  pub held : List Parcel
  pub rows : List Row
  pub did : WiresFlowed tells alone before after es us c from to tried held rows
  pub ended : IfOk result (λ made. (tried ≡ []) × (held ≡ []) × (made.items ≡ rows))
  pub cause : IfErr result (HasFlowCause before after es us c.block (parcels_sent es us tried) did.exchanges)

abbrev pub HaveFlowedOver : WiresSeen → List EndpointParts → List unit.Unit → RunShape → Hand → Hand → Result (Vec Row Global) FlowError → Type 0
HaveFlowedOver w es us c from to result = HaveFlowed w.tells w.alone w.before w.after es us c from to result

-- the rows of two calls, one's behind the other's; or the refusal of the first, or of the second, or want of memory for the list
abbrev pub AreOfBoth : Result (Vec Row Global) FlowError → Result (Vec Row Global) FlowError → Result (Vec Row Global) FlowError → Type 0
AreOfBoth (Ok ours) (Ok theirs) (Ok all) = all.items ≡ ours.items ++ theirs.items
AreOfBoth (Ok ours) (Ok theirs) (Err e) = e ≡ flow.Memory
AreOfBoth (Ok ours) (Err why) result = result ≡ Err why
AreOfBoth (Err why) theirs result = result ≡ Err why
