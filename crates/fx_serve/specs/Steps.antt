-- What the steps of `fedx serve` give. `IsServeReported` says what the whole gives.
use Rattle.std.specs.Prelude.{◌≡◌, ◌++◌, ◌∷◌, ◌≤◌, ℕ, List, [], IsTrue, Result, Ok, Err, length}
use Rattle.fx_outside.specs.Doors.{DoorSeen}
use Rattle.fx_outside.specs.Endpoints.{EndpointParts}
use Rattle.fx_outside.specs.declared.doors.DoorError.{DoorError}
use Rattle.fx_outside.specs.declared.doors.DoorError.TheVariants as door
use Rattle.fx_gateway.specs.declared.connections.GateError.{GateError}
use Rattle.fx_gateway.specs.declared.connections.GateError.TheVariants as error
use Rattle.fx_gateway.specs.declared.connections.Gated.{Gated}
use Rattle.fx_local.specs.Serving.{IsOneAtMost, ending_line}
use Rattle.fx_serve.specs.Connections.{AreServed, Connection, HaveCome, IsReplied, Known, Members, WasServed, asked_between, lines_of}
use Rattle.fx_serve.specs.declared.serving.Served.{Served}

-- its lines, by the number of the connection, are those of what the connection came to
abbrev pub HasLines : List EndpointParts → Result Gated GateError → Served → Type 0
HasLines endpoints given served = (number : ℕ) → lines_of endpoints number given ≡ ending_line number served.ending ++ served.lines.items

-- what a connection came to, with its lines; or memory ran out
abbrev pub IsNoted : List EndpointParts → Result Gated GateError → Result Served DoorError → Type 0
IsNoted endpoints given (Ok served) = (given ≡ Err error.Memory → ⊥) × HasLines endpoints given served
IsNoted endpoints given (Err door.Memory) = Unit {0}
IsNoted endpoints given (Err door.Failed) = ⊥

-- the first input was served, where the door tells
pub record IsServedNext (m : Members) (before after : DoorSeen) (now later : Known) (served : Served) : Type 0 where
  pub connection : Connection
  pub was : WasServed (asked_between m now later) connection
  pub behind : connection.behind ≡ later
  pub replied : IsReplied connection
  pub lines : HasLines m.endpoints connection.given served
  pub come : IsTrue before.tells → HaveCome before after (connection ∷ []) []

-- no input was served, and at most one was taken; one may have been, which has no line
pub record IsLost (m : Members) (before after : DoorSeen) (now later : Known) : Type 0 where
  pub lost : List Connection
  pub few : length lost ≤ 1
  pub served : AreServed m now lost later
  pub unanswered : List (List ℕ)
  pub few_inputs : IsOneAtMost unanswered
  pub come : IsTrue before.tells → HaveCome before after [] unanswered

-- the next connection was served, or none was
abbrev pub GivesServed : Members → DoorSeen → DoorSeen → Known → Known → Result Served DoorError → Type 0
GivesServed m before after now later (Ok served) = IsServedNext m before after now later served
GivesServed m before after now later (Err e) = IsLost m before after now later
