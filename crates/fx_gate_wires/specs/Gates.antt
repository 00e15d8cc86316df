-- What an exchange with a gate gives, at its own address and at another.
use Rattle.std.specs.Prelude.{◌≡◌, ◌≢◌, ◌⊎◌, ◌<◌, ◌≤◌, ◌+◌, ◌++◌, ℕ, List, [], ◌∷◌, All, AllPairs, IfOk, IfSome, IsErrOf, IsTrue, MatchResult, Option, Some, None, Result, Ok, Err, length, take, vec_len}
use Rattle.std.specs.declared.alloc.Global.{Global}
use Rattle.std.specs.declared.vec.Vec.{Vec}
use Rattle.fx_terms.specs.Graphs.{IsGraph}
use Rattle.fx_terms.specs.declared.allocation.Memory.{Memory}
use Rattle.fx_terms.specs.declared.triples.Triple.{Triple}
use Rattle.fx_outside.specs.Endpoints.{EndpointParts}
use Rattle.fx_sources.specs.Probes.{Entry}
use Rattle.fx_sources.specs.Sources as source
use Rattle.fx_traffic.specs.Gains.{AreAfter}
use Rattle.fx_wire.specs.Exchanges.{Seen, exchanged}
use Rattle.fx_wire.specs.Honest.{IsHonest}
use Rattle.fx_wire.specs.declared.wires.WireError.{WireError}
use Rattle.fx_wire.specs.declared.wires.WireError.TheVariants as wire
use Rattle.fx_gateway.specs.Connected.{Federation, IsGated, IsLost, LinkSeen}
use Rattle.fx_gateway.specs.declared.connections.Gated.{Gated}
use Rattle.fx_gateway.specs.declared.connections.GatedReply.{GatedReply}
use Rattle.fx_gate_wires.specs.Told.{first_graph, told_all}

-- ---- what holds of every gate

-- It has 1 to 16 wires, a block that is in range, and a registry of distinct addresses that hasn't its own; and where the first wire tells the graph of each endpoint, the cache's entries are true of these.
pub record IsGate (at : List ℕ) (endpoints : List EndpointParts) (entries : List Entry) (block : ℕ) (wires : List Seen) : Type 0 where
  pub some : 0 < length wires
  pub few : length wires ≤ 16
  pub positive : 0 < block
  pub small : block ≤ 64
  pub distinct : AllPairs (λ d e. d.iri ≢ e.iri) endpoints
  pub apart : All (λ e. e.iri ≢ at) endpoints
  pub entries_are : (graphs : List (List Triple)) → told_all (first_graph wires) endpoints ≡ Some graphs → All (source.Tells graphs) entries

-- an exchange comes to the first wire alone
pub record FirstIsAfter (wires laters : List Seen) : Type 0 where
  pub as_many : length laters ≡ length wires
  pub first : AreAfter (take 1 wires) (take 1 laters)

-- ---- at its own address

-- it is the whole reply of the federation to this request
pub record IsReplyOf (f : Federation) (request : List ℕ) (gated : Gated) (reply : List ℕ) : Type 0 where
  pub link : LinkSeen
  pub tells : IsTrue link.tells_left
  pub asks : link.left ≡ request
  pub is_gated : IsGated link f gated reply

-- it has an answer for each member, or a refusal that is the request's own
pub record Passes (gated : Gated) : Type 0 where
  pub answered : gated.status ≢ 502
  pub whole : gated.abandoned ≡ []

-- a member failed, or was left out
abbrev pub Fails : Gated → Type 0
Fails gated = (gated.status ≡ 502) ⊎ (gated.abandoned ≢ [])

-- its bytes, where it passes and has no more than so many, and else none
abbrev pub IsGivenBy : GatedReply → ℕ → Option (Vec ℕ Global) → Type 0
IsGivenBy reply limit (Some bytes) = (bytes.items ≡ reply.bytes.items) × Passes reply.gated × (length reply.bytes.items ≤ limit)
IsGivenBy reply limit None = Fails reply.gated ⊎ (limit < length reply.bytes.items)

-- the whole reply, which passes, and has no more than so many bytes
pub record IsGiven (f : Federation) (request : List ℕ) (limit : ℕ) (reply : List ℕ) : Type 0 where
  pub gated : Gated
  pub is_reply : IsReplyOf f request gated reply
  pub passes : Passes gated
  pub short : length reply ≤ limit

-- it fails, or is longer
pub record IsFailed (f : Federation) (request : List ℕ) (limit : ℕ) : Type 0 where
  pub gated : Gated
  pub reply : List ℕ
  pub is_reply : IsReplyOf f request gated reply
  pub fails : Fails gated ⊎ (limit < length reply)

-- there is none, since memory ran out: before anything was asked, or then or behind it
pub record IsLostOf (f : Federation) (request : List ℕ) : Type 0 where
  pub link : LinkSeen
  pub is_lost : IsLost link f

-- the reply that is given, or none
abbrev pub AnswersOwn : Federation → List ℕ → ℕ → Result (Option (Vec ℕ Global)) Memory → Type 0
AnswersOwn f request limit (Ok (Some reply)) = IsGiven f request limit reply.items
AnswersOwn f request limit (Ok None) = IsFailed f request limit
AnswersOwn f request limit (Err why) = IsLostOf f request

-- so it is of an exchange
abbrev pub GivesOwn : Federation → List ℕ → ℕ → Result (Vec ℕ Global) WireError → Type 0
GivesOwn f request limit (Ok reply) = IsGiven f request limit reply.items
GivesOwn f request limit (Err wire.Failed) = IsFailed f request limit
GivesOwn f request limit (Err wire.Memory) = Unit {0}

-- ---- at another address

-- it goes to the first wire
pub record PassedOn (wires laters : List Seen) (at : EndpointParts) (request : List ℕ) (limit : ℕ) (result : Result (Vec ℕ Global) WireError) : Type 0 where
  pub first : Seen
  pub later : Seen
  pub others : List Seen
  pub before : wires ≡ first ∷ others
  pub after : laters ≡ later ∷ others
  pub size : IfOk result (λ reply. vec_len reply ≤ limit + 1)
  pub logged : IsTrue first.tells_log → MatchResult result (λ reply. later.log ≡ first.log ++ exchanged at request reply.items ∷ []) (λ _. later.log ≡ first.log)
  pub honest : IfOk result (λ reply. IfSome (first.graph at.iri) (λ told. IsGraph told × (length reply.items ≤ limit → IsHonest told request reply.items)))
  pub same : (address : List ℕ) → later.graph address ≡ first.graph address
  pub kept : (address : List ℕ) → first.faults address ≤ later.faults address
  pub counted : IsErrOf result wire.Failed → later.faults at.iri ≡ first.faults at.iri + 1
  pub faultless : ¬ IsErrOf result wire.Failed → later.faults at.iri ≡ first.faults at.iri
