-- What `fedx serve` does: it serves connections one after another by the members of a registry, with the lines of each.
use Rattle.std.specs.Prelude.{◌≡◌, ◌⊎◌, ℕ, ◌+◌, ◌<◌, ◌≤◌, List, [], ◌∷◌, ◌++◌, length, All, IsTrue}
use Rattle.fx_outside.specs.Doors.{DoorSeen}
use Rattle.fx_outside.specs.Endpoints.{EndpointParts}
use Rattle.fx_sources.specs.Probes.{Entry}
use Rattle.fx_sources.specs.Registries.{IsRegistry}
use Rattle.fx_sources.specs.declared.errors.RegistryError.{RegistryError}
use Rattle.fx_traffic.specs.Gains.{WiresSeen}
use Rattle.fx_outcomes.specs.Outcomes.{AllTell}
use Rattle.fx_local.specs.Files.{FileRead, HasFailed, IsNoRegistry, IsRegistryOf, IsTooLong}
use Rattle.fx_local.specs.Limits.{registry_limit}
use Rattle.fx_local.specs.Lines.{Gains, cannot_read, cannot_serve, no_memory, registry_refused, registry_too_long}
use Rattle.fx_local.specs.Serving.{IsLastCut, IsOneAtMost, IsOpen, IsShut, once_more}
use Rattle.fx_local.specs.Sinks.{SinkWritten}
use Rattle.fx_local.specs.declared.statuses.Status.{Status}
use Rattle.fx_local.specs.declared.statuses.Status.TheVariants as status
use Rattle.fx_serve.specs.Connections.{AreServed, Come, Connection, HaveCome, IsReplied, Known, Members, known, lines_from, lines_of, members}
use Rattle.fx_serve.specs.Laws.{AreTold}

-- ---- what was served

-- These were served one after another, and perhaps one more, which has no line, since memory ran out or the door couldn't end it. Where the wires tell graphs, each reply is told over these.
pub record WereServed (m : Members) (first last : Known) (cs lost : List Connection) : Type 0 where
  pub served : AreServed m first (cs ++ lost) last
  pub replied : All IsReplied cs
  pub few : length lost ≤ 1
  pub told : AreTold m first cs

-- ---- how serving ends

-- so many connections were served, each with its lines
pub record IsDone (m : Members) (before after : DoorSeen) (addresses : List (List ℕ)) (count : ℕ) (first last : Known) (lines behind : List ℕ) : Type 0 where
  pub connections : List Connection
  pub served : WereServed m first last connections []
  pub come : Come before after connections []
  pub opened : IsTrue before.tells → IsOpen after addresses
  pub many : length connections ≡ count
  pub each_has_lines : lines ≡ lines_from m.endpoints 1 connections
  pub no_more : behind ≡ []

-- connections were served, each with its lines, and one more, whose lines could not be written; they are no more than are to be served
pub record IsUnwritten (m : Members) (before after : DoorSeen) (addresses : List (List ℕ)) (count : ℕ) (first last : Known) (lines behind : List ℕ) : Type 0 where
  pub connections : List Connection
  pub unwritten : Connection
  pub served : WereServed m first last (connections ++ unwritten ∷ []) []
  pub come : Come before after (connections ++ unwritten ∷ []) []
  pub opened : IsTrue before.tells → IsOpen after addresses
  pub many : length connections < count
  pub each_has_lines : lines ≡ lines_from m.endpoints 1 connections
  pub its_lines : behind ≡ lines_of m.endpoints (length connections + 1) unwritten.given

-- what a door tells where serving was cut: at most one input was taken and not answered, no more were taken than are to be served, and the door was opened at these addresses, or could not be opened
pub record HasStopped (before after : DoorSeen) (addresses : List (List ℕ)) (count : ℕ) (cs : List Connection) : Type 0 where
  pub unanswered : List (List ℕ)
  pub come : HaveCome before after cs unanswered
  pub few : IsOneAtMost unanswered
  pub within : length cs + length unanswered ≤ count
  pub opened : IsOpen after addresses ⊎ IsShut before after

-- connections were served, each with its lines, and then the door failed or memory ran out, which has a line
pub record IsCut (m : Members) (before after : DoorSeen) (addresses : List (List ℕ)) (count : ℕ) (first last : Known) (line lines behind : List ℕ) : Type 0 where
  pub connections : List Connection
  pub lost : List Connection
  pub served : WereServed m first last connections lost
  pub stopped : IsTrue before.tells → HasStopped before after addresses count connections
  pub many : length connections ≤ count
  pub each_has_lines : lines ≡ lines_from m.endpoints 1 connections
  pub last_line : behind ≡ line

-- what serving reports at a door that was opened at these addresses: the lines that are whole, and what is written behind them
abbrev pub IsServingReported : Members → DoorSeen → DoorSeen → List (List ℕ) → ℕ → Known → Known → Status → List ℕ → List ℕ → Type 0
IsServingReported m before after addresses count first last status.Done lines behind = IsDone m before after addresses count first last lines behind
IsServingReported m before after addresses count first last status.WriteFault lines behind = IsUnwritten m before after addresses count first last lines behind
IsServingReported m before after addresses count first last status.DoorFault lines behind = (before.faults < after.faults) × IsCut m before after addresses count first last cannot_serve lines behind
IsServingReported m before after addresses count first last status.NoMemory lines behind = IsCut m before after addresses count first last no_memory lines behind
IsServingReported m before after addresses count first last s lines behind = ⊥

-- and its sink of lines gained these
abbrev pub HasServingReport : Members → DoorSeen → DoorSeen → List (List ℕ) → ℕ → Known → Known → Status → SinkWritten → Type 0
HasServingReport m before after addresses count first last s err =
    (lines : List ℕ) × (behind : List ℕ) × IsServingReported m before after addresses count first last s lines behind
    × (IsTrue err.tells → Gains (err.old ++ lines) err.new err.before err.after behind) × IsLastCut s err lines behind

-- ---- the command

-- a registry is served, by wires of which all tell their logs or none, with a new cache, by a door that is opened once at the address
pub record ServesRegistry (r : FileRead) (w : WiresSeen) (before after : DoorSeen) (address : List ℕ) (count block : ℕ) (s : Status) (lines behind : List ℕ) : Type 0 where
  pub endpoints : List EndpointParts
  pub registered : IsRegistryOf r endpoints
  pub registry : IsRegistry endpoints
  pub alike : AllTell w.tells w.before
  pub entries : List Entry
  pub reported : IsServingReported (members w.tells w.alone endpoints block) before after (once_more before address) count (known w.before []) (known w.after entries) s lines behind

-- nothing was asked, all that is seen of the door is as it was, and there is no line but this
pub record IsUnserved (w : WiresSeen) (before after : DoorSeen) (line lines behind : List ℕ) : Type 0 where
  pub unasked : w.after ≡ w.before
  pub untouched : after ≡ before
  pub no_lines : lines ≡ []
  pub last_line : behind ≡ line

-- The cause of each status, and what it writes on standard error: the registry's file is read first, then its registry, and then the door is opened at the address, for so many connections.
abbrev pub IsServeReported : FileRead → WiresSeen → DoorSeen → DoorSeen → List ℕ → ℕ → ℕ → Status → List ℕ → List ℕ → Type 0
IsServeReported r w before after address count block status.RegistryRefused lines behind = (e : RegistryError) × IsNoRegistry r e × IsUnserved w before after (registry_refused e) lines behind
IsServeReported r w before after address count block status.ReadFault lines behind = HasFailed r × IsUnserved w before after (cannot_read r.name) lines behind
IsServeReported r w before after address count block status.FileTooLong lines behind = IsTooLong registry_limit r × IsUnserved w before after (registry_too_long r.name) lines behind
IsServeReported r w before after address count block status.NoMemory lines behind =
    IsUnserved w before after no_memory lines behind ⊎ ServesRegistry r w before after address count block status.NoMemory lines behind
IsServeReported r w before after address count block s lines behind = ServesRegistry r w before after address count block s lines behind

-- and its sink of lines gained these
abbrev pub HasServeReport : FileRead → WiresSeen → DoorSeen → DoorSeen → List ℕ → ℕ → ℕ → Status → SinkWritten → Type 0
HasServeReport r w before after address count block s err =
    (lines : List ℕ) × (behind : List ℕ) × IsServeReported r w before after address count block s lines behind
    × (IsTrue err.tells → Gains (err.old ++ lines) err.new err.before err.after behind) × IsLastCut s err lines behind
