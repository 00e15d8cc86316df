-- Connections to a federation, one after another: what was asked of its members in each, what was replied, and what came in and went out at its door.
use Rattle.std.specs.Prelude.{◌≡◌, ◌≢◌, ◌++◌, ◌∷◌, ℕ, Bool, List, [], All, IsTrue, Result, Ok, Err, map}
use Rattle.std.proofs.Common.{suc}
use Rattle.fx_outside.specs.Doors.{DoorSeen, Output, output_of}
use Rattle.fx_outside.specs.Endpoints.{EndpointParts}
use Rattle.fx_http.specs.Requests.{TakesOfRequest}
use Rattle.fx_sources.specs.Probes.{Entry}
use Rattle.fx_traffic.specs.Gains.{WiresSeen}
use Rattle.fx_wire.specs.Exchanges.{Seen}
use Rattle.fx_outcomes.specs.Outcomes.{AllTell}
use Rattle.fx_wire.specs.declared.wires.Wire.{Ghosts}
use Rattle.fx_gateway.specs.Connected.{Connected, Federation, IsWriteFault, LinkSeen, federation}
use Rattle.fx_gateway.specs.declared.connections.GateError.{GateError}
use Rattle.fx_gateway.specs.declared.connections.GateError.TheVariants as error
use Rattle.fx_gateway.specs.declared.connections.Gated.{Gated}
use Rattle.fx_local.specs.Serving.{ending_line}
use Rattle.fx_local.specs.declared.serving.Ending.TheVariants.{Replied, ReadFault, WriteFault}
use Rattle.fx_lines.specs.MemberLines.{noted_lines}

-- ---- one connection

-- what is known of a federation at a moment: of its wires, and what its cache holds
pub record Known : Type 0 where
  pub wires : List Seen
  pub entries : List Entry

abbrev pub known : List Seen → List Entry → Known
known wires entries = record { wires = wires; entries = entries }

-- of wires of one type
abbrev pub known_of : {W : Type 0} → Ghosts W → List W → List Entry → Known
known_of w wires entries = known (map w.seen wires) entries

-- the members of a federation, what its wires tell, and how many rows a request asks for at most
pub record Members : Type 0 where
  pub tells : Bool
  pub alone : Bool
  pub endpoints : List EndpointParts
  pub block : ℕ

abbrev pub members : Bool → Bool → List EndpointParts → ℕ → Members
members tells alone endpoints block = record { tells = tells; alone = alone; endpoints = endpoints; block = block }

-- asked by wires of one type
abbrev pub members_of : {W : Type 0} → Ghosts W → List EndpointParts → ℕ → Members
members_of w endpoints block = members w.tells_log w.counts_alone endpoints block

-- its wires from one moment to another
abbrev pub wires_between : Members → Known → Known → WiresSeen
wires_between m now later = record { tells = m.tells; alone = m.alone; before = now.wires; after = later.wires }

-- the federation from one moment to another
abbrev pub asked_between : Members → Known → Known → Federation
asked_between m now later = federation (wires_between m now later) m.endpoints now.entries later.entries m.block

-- a connection: its link before it was served and behind it, what it came to, and what is known of the federation then
pub record Connection : Type 0 where
  pub before : LinkSeen
  pub after : LinkSeen
  pub given : Result Gated GateError
  pub behind : Known

abbrev pub connection : LinkSeen → LinkSeen → Result Gated GateError → Known → Connection
connection before after given behind = record { before = before; after = after; given = given; behind = behind }

-- It was served by this federation, whose wires tell their logs behind it as before. Nothing behind its request was taken, and its link counts no fault but that by which it ended.
pub record WasServed (f : Federation) (c : Connection) : Type 0 where
  pub alike : AllTell f.wires.tells f.wires.after
  pub connected : Connected c.before c.after f c.given
  pub within : IsTrue c.before.tells_left → TakesOfRequest c.before.left c.after.left
  pub reads : c.given ≢ Err error.ReadFault → c.after.read_faults ≡ c.before.read_faults
  pub writes : (IsWriteFault c.given → ⊥) → c.after.write_faults ≡ c.before.write_faults

-- memory didn't run out
abbrev pub IsReplied : Connection → Type 0
IsReplied c = c.given ≢ Err error.Memory

-- ---- one after another

-- connections were served one after another, each by the federation as the one before it left it
abbrev pub AreServed : Members → Known → List Connection → Known → Type 0
AreServed m now [] later = later ≡ now
AreServed m now (c ∷ cs) later = WasServed (asked_between m now c.behind) c × AreServed m c.behind cs later

-- ---- at a door

-- a link that has just come in: it tells what it has left and holds, holds nothing, and has no fault
pub record IsFresh (c : Connection) : Type 0 where
  pub tells_left : IsTrue c.before.tells_left
  pub tells_held : IsTrue c.before.tells_held
  pub empty : c.before.held ≡ []
  pub unread : c.before.read_faults ≡ 0
  pub unwritten : c.before.write_faults ≡ 0

abbrev pub input_of : Connection → List ℕ
input_of c = c.before.left

-- what is kept of it
abbrev pub kept_of : Connection → Output
kept_of c = output_of c.after.held c.after.left c.after.read_faults c.after.write_faults

-- these came in in order, and their outputs were kept; some inputs were taken and left unanswered
pub record HaveCome (before after : DoorSeen) (cs : List Connection) (unanswered : List (List ℕ)) : Type 0 where
  pub fresh : All IsFresh cs
  pub went_out : after.outputs ≡ before.outputs ++ map kept_of cs
  pub came_in : before.inputs ≡ map input_of cs ++ (unanswered ++ after.inputs)

-- where the door tells
abbrev pub Come : DoorSeen → DoorSeen → List Connection → List (List ℕ) → Type 0
Come before after cs unanswered = IsTrue before.tells → HaveCome before after cs unanswered

-- ---- lines

-- the lines of what is known beside a reply
abbrev pub gated_lines : List EndpointParts → Gated → List ℕ
gated_lines endpoints gated = noted_lines endpoints gated.abandoned gated.down

-- the lines of a connection, by its number: how it ended, and then who was left out and what was down. One without memory has none.
abbrev pub lines_of : List EndpointParts → ℕ → Result Gated GateError → List ℕ
lines_of endpoints number (Ok gated) = ending_line number (Replied gated.status) ++ gated_lines endpoints gated
lines_of endpoints number (Err (error.WriteFault gated)) = ending_line number WriteFault ++ gated_lines endpoints gated
lines_of endpoints number (Err error.ReadFault) = ending_line number ReadFault
lines_of endpoints number (Err error.Memory) = []

-- of each, where they are numbered from a number on
abbrev pub lines_from : List EndpointParts → ℕ → List Connection → List ℕ
lines_from endpoints number [] = []
lines_from endpoints number (c ∷ cs) = lines_of endpoints number c.given ++ lines_from endpoints (suc number) cs
