-- What the steps of serving a connection give. `Connected` says what the whole gives.
use Rattle.std.specs.Prelude.{◌≡◌, ◌++◌, List, ℕ, IfOk, IsTrue, Result, Ok, Err}
use Rattle.fx_outside.specs.Faults.{HasRisen}
use Rattle.fx_outside.specs.Streams.{AppendsPart}
use Rattle.fx_terms.specs.declared.allocation.Memory.{Memory}
use Rattle.fx_algebra.specs.declared.queries.Query.{Query}
use Rattle.fx_grammar.specs.Accepted.{Accepted}
use Rattle.fx_http.specs.Requests.{Asks}
use Rattle.fx_member.specs.Served.{IsLaidOut, IsTextToldBy, Told}
use Rattle.fx_member.specs.declared.serving.ServeError.{ServeError}
use Rattle.fx_member.specs.declared.serving.ServeError.TheVariants as lost
use Rattle.fx_outcomes.specs.InRounds.{FederatedInRoundsOver}
use Rattle.fx_outcomes.specs.declared.federated.FedError.{FedError}
use Rattle.fx_outcomes.specs.declared.rounds.OutcomeInRounds.{OutcomeInRounds}
use Rattle.fx_gateway.specs.Connected.{Federation, Gains, IsGated, IsLost, IsRefusal, IsUnasked, LinkSeen, NoQuery}
use Rattle.fx_gateway.specs.Replies.{IsReplyTo}
use Rattle.fx_gateway.specs.declared.connections.GateError.{GateError}
use Rattle.fx_gateway.specs.declared.connections.GateError.TheVariants as error
use Rattle.fx_gateway.specs.declared.connections.Gated.{Gated}
use Rattle.fx_gateway.specs.declared.connections.GatedReply.{GatedReply}
use Rattle.fx_gateway.specs.declared.requests.Received.{Received}
use Rattle.fx_gateway.specs.declared.requests.Received.TheVariants as received

-- ---- what a request is

-- a text
abbrev pub IsTextReceived : List ℕ → Received → Type 0
IsTextReceived text (received.Asks query) = Accepted text query
IsTextReceived text (received.Refused reply) = (t : Told) × IsTextToldBy NoQuery text t × IsLaidOut t reply.status reply.bytes.items

-- what a link has left
abbrev pub IsReceived : LinkSeen → Received → Type 0
IsReceived link (received.Asks query) = (text : List ℕ) × (IsTrue link.tells_left → Asks link.left (Ok text)) × Accepted text query
IsReceived link (received.Refused reply) = (t : Told) × IsRefusal link t × IsLaidOut t reply.status reply.bytes.items

-- ---- what is replied

-- a query was asked of the members, and what they gave is replied, unless memory ran out
pub record IsAskedReply (f : Federation) (q : Query) (result : Result GatedReply Memory) : Type 0 where
  pub given : Result OutcomeInRounds FedError
  pub federated : FederatedInRoundsOver f.wires f.endpoints q f.old f.new f.block given
  pub replied : IfOk result (λ reply. IsReplyTo given reply.gated reply.bytes.items)

-- what comes of a request, up to its reply
abbrev pub IsPrepared : LinkSeen → Federation → Result GatedReply ServeError → Type 0
IsPrepared link f (Ok reply) = IsGated link f reply.gated reply.bytes.items
IsPrepared link f (Err lost.ReadFault) = IsUnasked f
IsPrepared link f (Err lost.WriteFault) = ⊥
IsPrepared link f (Err lost.Memory) = IsLost link f

-- ---- what is written

-- a reply, or a front of it
abbrev pub IsWritten : LinkSeen → LinkSeen → GatedReply → Result Gated GateError → Type 0
IsWritten before after reply (Ok gated) = (gated ≡ reply.gated) × Gains before after (λ old new. new ≡ old ++ reply.bytes.items)
IsWritten before after reply (Err (error.WriteFault gated)) =
    (gated ≡ reply.gated) × Gains before after (λ old new. AppendsPart old new reply.bytes.items) × HasRisen before.write_faults after.write_faults
IsWritten before after reply (Err error.ReadFault) = ⊥
IsWritten before after reply (Err error.Memory) = ⊥

-- why there is no reply
abbrev pub unreplied : ServeError → GateError
unreplied lost.ReadFault = error.ReadFault
unreplied lost.WriteFault = error.Memory
unreplied lost.Memory = error.Memory
