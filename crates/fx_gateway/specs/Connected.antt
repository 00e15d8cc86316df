-- What becomes of one connection to a federation: what was asked of its members, and what was replied.
use Rattle.std.specs.Prelude.{◌≡◌, ◌⊎◌, ◌++◌, ℕ, Bool, List, IsTrue, Some, Result, Ok, Err}
use Rattle.fx_outside.specs.Endpoints.{EndpointParts}
use Rattle.fx_outside.specs.Faults.{HasRisen}
use Rattle.fx_outside.specs.Streams.{AppendsPart}
use Rattle.fx_outside.specs.declared.streams.Ends.{Ghosts}
use Rattle.fx_algebra.specs.declared.queries.Query.{Query}
use Rattle.fx_grammar.specs.Accepted.{Accepted}
use Rattle.fx_http.specs.Requests.{Asks, request_error_name, status_of}
use Rattle.fx_http.specs.WrittenReplies.{reply_of}
use Rattle.fx_http.specs.declared.read_requests.RequestError.{RequestError}
use Rattle.fx_member.specs.Served.{IsTextToldBy, Told, own_line, told}
use Rattle.fx_sources.specs.Probes.{Entry}
use Rattle.fx_traffic.specs.Gains.{WiresSeen}
use Rattle.fx_outcomes.specs.InRounds.{FederatedInRoundsOver}
use Rattle.fx_outcomes.specs.declared.federated.FedError.{FedError}
use Rattle.fx_outcomes.specs.declared.rounds.OutcomeInRounds.{OutcomeInRounds}
use Rattle.fx_gateway.specs.Replies.{IsReplyTo, unasked_with}
use Rattle.fx_gateway.specs.declared.connections.GateError.{GateError}
use Rattle.fx_gateway.specs.declared.connections.GateError.TheVariants as error
use Rattle.fx_gateway.specs.declared.connections.Gated.{Gated}

-- ---- a call

-- what is known of a link at a moment: what it has left and what was written to it, where it tells these, and how often a read and a write failed
pub record LinkSeen : Type 0 where
  pub tells_left : Bool
  pub left : List ℕ
  pub tells_held : Bool
  pub held : List ℕ
  pub read_faults : ℕ
  pub write_faults : ℕ

-- as its type tells it
abbrev pub link_seen : {L : Type 0} → Ghosts L → L → LinkSeen
link_seen l link = record { tells_left = l.tells_left; left = l.left link; tells_held = l.tells_held; held = l.held link; read_faults = l.read_faults link; write_faults = l.write_faults link }

-- The members of a federation, its wires before and after a call, what the cache held before and holds after, and how many rows a request asks for at most.
pub record Federation : Type 0 where
  pub wires : WiresSeen
  pub endpoints : List EndpointParts
  pub old : List Entry
  pub new : List Entry
  pub block : ℕ

abbrev pub federation : WiresSeen → List EndpointParts → List Entry → List Entry → ℕ → Federation
federation wires endpoints old new block = record { wires = wires; endpoints = endpoints; old = old; new = new; block = block }

-- ---- what was asked

-- nothing, and the cache holds what it held
pub record IsUnasked (f : Federation) : Type 0 where
  pub same : f.wires.after ≡ f.wires.before
  pub kept : f.new ≡ f.old

-- the query that the text of the request is, in rounds: what the members gave
pub record WasAsked (link : LinkSeen) (f : Federation) (result : Result OutcomeInRounds FedError) : Type 0 where
  pub text : List ℕ
  pub asks : IsTrue link.tells_left → Asks link.left (Ok text)
  pub query : Query
  pub accepted : Accepted text query
  pub federated : FederatedInRoundsOver f.wires f.endpoints query f.old f.new f.block result

-- ---- what is replied

-- nothing is told of a query
abbrev pub NoQuery : Query → Told → Type 0
NoQuery q t = ⊥

-- the request is refused, or its text is
pub data IsRefusal (link : LinkSeen) (t : Told) : Type 0 where
  of_request : (error : RequestError) (status : ℕ) → (IsTrue link.tells_left → Asks link.left (Err error)) → status_of error ≡ Some status → t ≡ told status (own_line (request_error_name error)) → IsRefusal link t
  of_text : (text : List ℕ) → (IsTrue link.tells_left → Asks link.left (Ok text)) → IsTextToldBy NoQuery text t → IsRefusal link t

-- that is replied
pub record IsRefused (link : LinkSeen) (f : Federation) (gated : Gated) (reply : List ℕ) : Type 0 where
  pub unasked : IsUnasked f
  pub t : Told
  pub refusal : IsRefusal link t
  pub gated_is : gated ≡ unasked_with t.status
  pub laid_out : reply ≡ reply_of t.status t.body

-- what the members gave is replied
pub record IsFederated (link : LinkSeen) (f : Federation) (gated : Gated) (reply : List ℕ) : Type 0 where
  pub result : Result OutcomeInRounds FedError
  pub asked : WasAsked link f result
  pub replied : IsReplyTo result gated reply

-- the whole reply to the request, and what is known beside it
abbrev pub IsGated : LinkSeen → Federation → Gated → List ℕ → Type 0
IsGated link f gated reply = IsRefused link f gated reply ⊎ IsFederated link f gated reply

-- there is no reply, since memory ran out: before anything was asked, or then or behind it
abbrev pub IsLost : LinkSeen → Federation → Type 0
IsLost link f = IsUnasked f ⊎ ((result : Result OutcomeInRounds FedError) × WasAsked link f result)

-- ---- a connection

-- what was written to a link that tells it
abbrev pub Gains : LinkSeen → LinkSeen → (List ℕ → List ℕ → Type 0) → Type 0
Gains before after P = IsTrue before.tells_held → P before.held after.held

-- One request was read of a link. With an answer the link gained the whole reply. Where a write failed it gained a front of it, which is shorter, and where a read failed, or memory ran out, nothing; the link's
-- count of such faults rose then. Where a read failed nothing was asked.
abbrev pub Connected : LinkSeen → LinkSeen → Federation → Result Gated GateError → Type 0
Connected before after f (Ok gated) = (reply : List ℕ) × IsGated before f gated reply × Gains before after (λ old new. new ≡ old ++ reply)
Connected before after f (Err (error.WriteFault gated)) = (reply : List ℕ) × IsGated before f gated reply × Gains before after (λ old new. AppendsPart old new reply) × HasRisen before.write_faults after.write_faults
Connected before after f (Err error.ReadFault) = IsUnasked f × Gains before after (λ old new. new ≡ old) × HasRisen before.read_faults after.read_faults
Connected before after f (Err error.Memory) = IsLost before f × Gains before after (λ old new. new ≡ old)

-- a write failed
abbrev pub IsWriteFault : Result Gated GateError → Type 0
IsWriteFault (Ok gated) = ⊥
IsWriteFault (Err (error.WriteFault gated)) = Unit {0}
IsWriteFault (Err error.ReadFault) = ⊥
IsWriteFault (Err error.Memory) = ⊥
