-- What asking for the units of a run leaves of a wire, and what it gives.
use Rattle.std.specs.Prelude.{◌≡◌, ◌<◌, ◌≤◌, ◌+◌, ◌++◌, ◌∷◌, ℕ, Bool, List, [], Option, Some, IfOk, IfErr, IsTrue, All, Contains, IsPermutation, Result, Ok, Err, length, slice_get}
use Rattle.std.specs.List.{flat_map}
use Rattle.std.specs.declared.alloc.Global.{Global}
use Rattle.std.specs.declared.vec.Vec.{Vec}
use Rattle.fx_terms.specs.declared.triples.Triple.{Triple}
use Rattle.fx_outside.specs.Endpoints.{EndpointParts}
use Rattle.fx_algebra.specs.Graphs.{union}
use Rattle.fx_algebra.specs.Units.{graph_of, step}
use Rattle.fx_algebra.specs.declared.units.Row.{Row}
use Rattle.fx_algebra.specs.declared.units.Unit as unit
use Rattle.fx_spelling.specs.Units.{IsSound}
use Rattle.fx_http.specs.Requests.{request_of}
use Rattle.fx_http.specs.declared.replies.ReplyError.TheVariants.{TooLong}
use Rattle.fx_bound.specs.Answers.{numbers}
use Rattle.fx_bound.specs.Parts.{Parts, places}
use Rattle.fx_founds.specs.Uniting.{tells}
use Rattle.fx_founds.specs.declared.founds.Found.{Found}
use Rattle.fx_traffic.specs.Batches.{member_sent, text_for, unit_sent}
use Rattle.fx_traffic.specs.Sent.{Sent, Sends}
use Rattle.fx_wire.specs.Exchanges.{Exchange, Seen, exchanged}
use Rattle.fx_pool.specs.Posting.{AreHonest}
use Rattle.fx_pool.specs.Jobs.{kind_by}
use Rattle.fx_pool.specs.Reading.{Carried, carried_for, HasFault, HasFound}
use Rattle.fx_pool.specs.declared.faults.ReplyFault.TheVariants.{Http}
use Rattle.fx_flows.specs.declared.flows.FlowError.{FlowError}
use Rattle.fx_flows.specs.declared.flows.FlowError.TheVariants as flow
use Rattle.fx_pool.specs.declared.jobs.BadReply.{BadReply}
use Rattle.fx_pool.specs.declared.posting.Posted.{Posted}
use Rattle.fx_pool.specs.declared.posting.Posted.TheVariants as posted

-- ---- exchanges on a wire

-- A wire went through these exchanges, which are honest where graphs are told; beside them so many failed, and where it counts each address
-- alone no more is counted anywhere.
pub record Passed (alone : Bool) (failed : ℕ) (before after : Seen) (xs : List Exchange) : Type 0 where
  pub logged : IsTrue before.tells_log → after.log ≡ before.log ++ xs
  pub honest : AreHonest before.graph xs
  pub same : (address : List ℕ) → after.graph address ≡ before.graph address
  pub tells : after.tells_log ≡ before.tells_log
  pub kept : (address : List ℕ) → before.faults address ≤ after.faults address
  pub counted : IsTrue alone → (address : List ℕ) → after.faults address ≤ before.faults address + failed

-- of each endpoint whose number is one of these the graph of that number is told
abbrev pub AreTold : (List ℕ → Option (List Triple)) → List EndpointParts → List (List Triple) → (ℕ → Type 0) → Type 0
AreTold graph es graphs Of = (at : ℕ) (e : EndpointParts) → Of at → slice_get es at ≡ Some e → graph e.iri ≡ Some (graph_of graphs at)

-- ---- causes

-- a reply to the text by which an endpoint is asked for a batch has this first fault, and is the reply of one of the exchanges; where the graph is told, the fault
-- is that the reply is too long
pub record IsBadBatch (tells : List Triple → Type 0) (e : EndpointParts) (p : Parts) (xs : List Exchange) (bad : BadReply) : Type 0 where
  pub of_kind : bad.kind ≡ kind_by (carried_for e p)
  pub text : List ℕ
  pub of_batch : text_for e p ≡ Some text
  pub posts : bad.request ≡ request_of e text
  pub exchanged_so : Contains xs (exchanged e bad.request bad.reply)
  pub fault : HasFault (carried_for e p) bad.reply bad.why
  pub long : (g : List Triple) → tells g → (bad.why ≡ Http TooLong) × (67108864 < length bad.reply)

-- the text by which an endpoint is asked for a batch is longer than one may be
pub record IsLongBatch (e : EndpointParts) (p : Parts) (size : ℕ) : Type 0 where
  pub text : List ℕ
  pub of_batch : text_for e p ≡ Some text
  pub long : 67108864 < size
  pub size_is : size ≡ length text

-- why a batch has no rows from an endpoint, by whether its faults rose and which graph is told of it
abbrev pub IsCause : Type 0 → (List Triple → Type 0) → EndpointParts → Parts → List Exchange → FlowError → Type 0
IsCause rose tells e p xs (flow.Member at) = rose
IsCause rose tells e p xs (flow.BadReply at bad) = IsBadBatch tells e p xs bad
IsCause rose tells e p xs (flow.RequestTooLong at size) = IsLongBatch e p size
IsCause rose tells e p xs flow.Memory = Unit {0}

abbrev pub IsBatchCause : Seen → Seen → EndpointParts → Parts → List Exchange → FlowError → Type 0
IsBatchCause before after e p xs why = IsCause (before.faults e.iri < after.faults e.iri) (λ g. before.graph e.iri ≡ Some g) e p xs why

-- the reply answers this request for what it carries, and has this first fault
pub record IsBadReplyTo (carried : Carried) (request bytes : List ℕ) (bad : BadReply) : Type 0 where
  pub of_kind : bad.kind ≡ kind_by carried
  pub requested : bad.request ≡ request
  pub replied : bad.reply ≡ bytes
  pub fault : HasFault carried bytes bad.why

-- which endpoint a refusal names
abbrev pub Names : ℕ → FlowError → Type 0
Names at (flow.Member it) = it ≡ at
Names at (flow.BadReply it bad) = it ≡ at
Names at (flow.RequestTooLong it size) = it ≡ at
Names at flow.Memory = Unit {0}

-- ---- one reply

-- what the reply to a request tells of a batch that it carries, or its first fault
abbrev pub FoundIn : Carried → Parts → ℕ → List ℕ → List ℕ → Result (List Found) FlowError → Type 0
FoundIn carried p at request bytes (Ok founds) = HasFound carried bytes founds × All (λ f. Contains (numbers p) f.branch) founds
FoundIn carried p at request bytes (Err (flow.BadReply it bad)) = (it ≡ at) × IsBadReplyTo carried request bytes bad
FoundIn carried p at request bytes (Err flow.Memory) = Unit {0}
FoundIn carried p at request bytes (Err why) = ⊥

abbrev pub FoundBy : Carried → Parts → ℕ → Posted → Result (List Found) FlowError → Type 0
FoundBy carried p at (posted.Replied request bytes) result = FoundIn carried p at request bytes result
FoundBy carried p at posted.Failed result = result ≡ Err (flow.Member at)
FoundBy carried p at (posted.TooLong size) result = result ≡ Err (flow.RequestTooLong at size)

-- the exchange asks for this batch, and its reply tells what was found, without a fault
pub record IsReadFor (p : Parts) (x : Exchange) : Type 0 where
  pub text : List ℕ
  pub of_batch : text_for x.at p ≡ Some text
  pub posts : x.request ≡ request_of x.at text
  pub founds : List Found
  pub tells : HasFound (carried_for x.at p) x.reply founds

-- its text has no more bytes than one may have
pub record IsShort (x : Exchange) : Type 0 where
  pub text : List ℕ
  pub posts : x.request ≡ request_of x.at text
  pub short : length text ≤ 67108864

-- so it is for a batch of a unit of these
pub record IsBatchRead (Of : unit.Unit → Type 0) (x : Exchange) : Type 0 where
  pub unit : unit.Unit
  pub of_these : Of unit
  pub batch : List Row
  pub read : IsReadFor (record { unit = unit; rows = batch }) x

-- ---- what members tell

-- what a graph has for each branch of a batch, in some order
abbrev pub IsToldBy : List Triple → Parts → List Found → Type 0
IsToldBy graph p founds = IsPermutation founds (flat_map (tells graph p.unit) (places p))

-- one list for each member: what its graph has
abbrev pub AreToldOf : List (List Triple) → Parts → List ℕ → List (List Found) → Type 0
AreToldOf graphs p [] [] = Unit {0}
AreToldOf graphs p [] (list ∷ lists) = ⊥
AreToldOf graphs p (at ∷ members) [] = ⊥
AreToldOf graphs p (at ∷ members) (list ∷ lists) = IsToldBy (graph_of graphs at) p list × AreToldOf graphs p members lists

-- ---- one member

-- A member was asked for a batch: its text was sent once at most, and once with what is found, where it has one; this is what its graph has for the branches,
-- where that is told.
pub record AskedMember (alone : Bool) (before after : Seen) (endpoints : List EndpointParts) (p : Parts) (at : ℕ) (result : Result (List Found) FlowError) : Type 0 where
  pub exchanges : List Exchange
  pub failed : ℕ
  pub once : failed ≤ 1
  pub unfailed : IfOk result (λ _. failed ≡ 0)
  pub passed : Passed alone failed before after exchanges
  pub left : List Sent
  pub sent : Sends (member_sent endpoints p.unit p.rows at) left exchanges
  pub endpoint : EndpointParts
  pub found : slice_get endpoints at ≡ Some endpoint
  pub numbered : IfOk result (λ founds. All (λ f. Contains (numbers p) f.branch) founds)
  pub whole : IfOk result (λ _. left ≡ [])
  pub short : All IsShort exchanges
  pub faultless : IfOk result (λ _. All (IsReadFor p) exchanges)
  pub read : IfOk result (λ founds. (g : List Triple) → before.graph endpoint.iri ≡ Some g → IsToldBy g p founds)
  pub named : IfErr result (Names at)
  pub cause : IfErr result (IsBatchCause before after endpoint p exchanges)

-- ---- the members of a unit

-- why the members of a unit have no rows for a batch: the cause at one of them, which the refusal names
pub record IsMemberCause (before after : Seen) (endpoints : List EndpointParts) (p : Parts) (members : List ℕ) (xs : List Exchange) (e : FlowError) : Type 0 where
  pub at : ℕ
  pub member : Contains members at
  pub endpoint : EndpointParts
  pub found : slice_get endpoints at ≡ Some endpoint
  pub named : Names at e
  pub cause : IsBatchCause before after endpoint p xs e

-- want of memory has none
abbrev pub HasMemberCause : Seen → Seen → List EndpointParts → Parts → List ℕ → List Exchange → FlowError → Type 0
HasMemberCause before after endpoints p members xs flow.Memory = Unit {0}
HasMemberCause before after endpoints p members xs e = IsMemberCause before after endpoints p members xs e

-- members were asked for a batch, one after another
pub record AskedMembers (alone : Bool) (before after : Seen) (endpoints : List EndpointParts) (p : Parts) (members : List ℕ) (result : Result (List (List Found)) FlowError) : Type 0 where
  pub exchanges : List Exchange
  pub failed : ℕ
  pub once : failed ≤ 1
  pub unfailed : IfOk result (λ _. failed ≡ 0)
  pub passed : Passed alone failed before after exchanges
  pub left : List Sent
  pub sent : Sends (flat_map (member_sent endpoints p.unit p.rows) members) left exchanges
  pub numbered : IfOk result (λ lists. All (λ list. All (λ f. Contains (numbers p) f.branch) list) lists)
  pub whole : IfOk result (λ _. left ≡ [])
  pub short : All IsShort exchanges
  pub faultless : IfOk result (λ _. All (IsReadFor p) exchanges)
  pub read : IfOk result (λ lists. (graphs : List (List Triple)) → AreTold before.graph endpoints graphs (Contains members) → AreToldOf graphs p members lists)
  pub cause : IfErr result (HasMemberCause before after endpoints p members exchanges)

-- the lists of an answer
abbrev pub lists_in : Result (Vec (List Found) Global) FlowError → Result (List (List Found)) FlowError
lists_in (Ok lists) = Ok lists.items
lists_in (Err e) = Err e

-- ---- a batch

-- the members of a unit were asked for a batch: the rows are what the unit makes of it, where graphs are told and the unit is sound
pub record AskedBatch (alone : Bool) (before after : Seen) (endpoints : List EndpointParts) (p : Parts) (result : Result (List Row) FlowError) : Type 0 where
  pub exchanges : List Exchange
  pub failed : ℕ
  pub once : failed ≤ 1
  pub unfailed : IfOk result (λ _. failed ≡ 0)
  pub passed : Passed alone failed before after exchanges
  pub left : List Sent
  pub sent : Sends (unit_sent endpoints p.unit p.rows) left exchanges
  pub whole : IfOk result (λ _. left ≡ [])
  pub short : All IsShort exchanges
  pub faultless : IfOk result (λ _. All (IsReadFor p) exchanges)
  pub done : IfOk result (λ rows. (graphs : List (List Triple)) → AreTold before.graph endpoints graphs (Contains p.unit.members) → IsSound graphs p.unit → IsPermutation rows (step (union graphs) p.unit p.rows))
  pub cause : IfErr result (HasMemberCause before after endpoints p p.unit.members exchanges)

abbrev pub rows_in : Result (Vec Row Global) FlowError → Result (List Row) FlowError
rows_in (Ok rows) = Ok rows.items
rows_in (Err e) = Err e
