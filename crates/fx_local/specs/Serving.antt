-- What `fedx member` does: it serves connections one after another, with a line for each.
use Rattle.std.specs.Prelude.{◌≡◌, ◌⊎◌, ℕ, ◌+◌, ◌<◌, ◌≤◌, List, [], ◌∷◌, ◌++◌, map, length, codes, All, IfSome, IsTrue}
use Rattle.std.specs.Fmt.{decimal}
use Rattle.std.proofs.Common.{suc}
use Rattle.fx_terms.specs.declared.triples.Triple.{Triple}
use Rattle.fx_outside.specs.Doors.{DoorSeen, Output}
use Rattle.fx_outside.specs.Streams.{AppendsFront, AppendsPart}
use Rattle.fx_http.specs.Requests.{TakesOfRequest}
use Rattle.fx_member.specs.Served.{IsServed}
use Rattle.fx_local.specs.GraphTexts.{IsGraphText}
use Rattle.fx_local.specs.declared.refusals.GraphFault.{GraphFault}
use Rattle.fx_local.specs.Files.{FileRead, HasFailed, IsTooLong, IsNoGraph}
use Rattle.fx_local.specs.Lines.{Gains, cannot_read, graph_refused, graph_too_long, no_memory, cannot_serve}
use Rattle.fx_local.specs.Sinks.{SinkWritten}
use Rattle.fx_local.specs.Limits.{graph_limit}
use Rattle.fx_local.specs.declared.serving.Ending.{Ending}
use Rattle.fx_local.specs.declared.serving.Ending.TheVariants.{Replied, ReadFault, WriteFault}
use Rattle.fx_local.specs.declared.statuses.Status.{Status}
use Rattle.fx_local.specs.declared.statuses.Status.TheVariants as status

-- ---- connections

-- a connection that was served: what came in, what went out, and how it ended
pub record Visit : Type 0 where
  pub input : List ℕ
  pub output : Output
  pub ending : Ending

-- what was written is the whole reply that the graph's member gives to the input, and nothing failed; a front of it only where a write failed, and no read did;
-- and nothing only where a read failed, and no write did
abbrev pub IsEnded : List Triple → List ℕ → Output → Ending → Type 0
IsEnded graph input output (Replied code) = IsServed graph input code output.held × (output.read_faults ≡ 0) × (output.write_faults ≡ 0)
IsEnded graph input output ReadFault = (output.held ≡ []) × (0 < output.read_faults) × (output.write_faults ≡ 0)
IsEnded graph input output WriteFault =
    ((code : ℕ) × (reply : List ℕ) × IsServed graph input code reply × AppendsFront [] output.held reply) × (0 < output.write_faults) × (output.read_faults ≡ 0)

-- and nothing behind its request was taken of the input, however it ended
abbrev pub IsVisit : List Triple → Visit → Type 0
IsVisit graph v = IsEnded graph v.input v.output v.ending × TakesOfRequest v.input v.output.left

-- the inputs taken were answered in order, and the outputs were kept; some that were taken are left unanswered
pub record HasVisits (graph : List Triple) (before after : DoorSeen) (endings : List Ending) (unanswered : List (List ℕ)) : Type 0 where
  pub visits : List Visit
  pub each : All (IsVisit graph) visits
  pub ended : endings ≡ map (λ v. v.ending) visits
  pub went_out : after.outputs ≡ before.outputs ++ map (λ v. v.output) visits
  pub came_in : before.inputs ≡ map (λ v. v.input) visits ++ (unanswered ++ after.inputs)

-- where the door tells, the connections are these
abbrev pub Serves : List Triple → DoorSeen → DoorSeen → List Ending → List (List ℕ) → Type 0
Serves graph before after endings unanswered = IsTrue before.tells → HasVisits graph before after endings unanswered

-- ---- lines

abbrev pub ending_text : Ending → List ℕ
ending_text (Replied code) = decimal code
ending_text ReadFault = codes "read fault"
ending_text WriteFault = codes "write fault"

-- the line of a connection, by its number
abbrev pub ending_line : ℕ → Ending → List ℕ
ending_line number ending = codes "connection " ++ (decimal number ++ (codes ": " ++ (ending_text ending ++ 10 ∷ [])))

-- a line for each, where they are numbered from a number on
abbrev pub ending_lines : ℕ → List Ending → List ℕ
ending_lines number [] = []
ending_lines number (ending ∷ endings) = ending_line number ending ++ ending_lines (suc number) endings

-- ---- statuses

-- the graph of a file: where the content is told it is within its limit, and a document of it
abbrev pub IsGraphOf : FileRead → List Triple → Type 0
IsGraphOf g graph = IfSome g.content (λ all. (length all ≤ graph_limit) × IsGraphText g.name all graph)

-- the door was opened at these addresses and no other, each time in order
abbrev pub IsOpen : DoorSeen → List (List ℕ) → Type 0
IsOpen seen addresses = seen.started ≡ addresses

-- those of before, and once more at the address
abbrev pub once_more : DoorSeen → List ℕ → List (List ℕ)
once_more before address = before.started ++ address ∷ []

-- The lines of the connections that are whole, and what is written behind them: nothing, or the one line by which serving ends. So
-- a connection is taken only where the line of each before it is whole.

-- where that line could not be written, a front of it was that is shorter than it is
abbrev pub IsLastCut : Status → SinkWritten → List ℕ → List ℕ → Type 0
IsLastCut s err lines last = s ≡ status.WriteFault → IsTrue err.tells → AppendsPart (err.old ++ lines) err.new last

-- so many connections were served, each with its line
abbrev pub IsDone : ℕ → DoorSeen → DoorSeen → List (List ℕ) → List Triple → List ℕ → List ℕ → Type 0
IsDone count before after addresses graph lines last = (endings : List Ending) × Serves graph before after endings [] × (length endings ≡ count) × (IsTrue before.tells → IsOpen after addresses) × (lines ≡ ending_lines 1 endings) × (last ≡ [])

-- the door could not be opened
pub record IsShut (before after : DoorSeen) : Type 0 where
  pub started : after.started ≡ before.started
  pub outputs : after.outputs ≡ before.outputs
  pub inputs : after.inputs ≡ before.inputs

-- connections were served, each with its line, and one more, whose line could not be written; they are no more than are to be served
abbrev pub IsUnwritten : DoorSeen → DoorSeen → List (List ℕ) → ℕ → List Triple → List ℕ → List ℕ → Type 0
IsUnwritten before after addresses count graph lines last = (endings : List Ending) × (ending : Ending) × Serves graph before after (endings ++ ending ∷ []) [] × (length endings < count) × (IsTrue before.tells → IsOpen after addresses) × (lines ≡ ending_lines 1 endings) × (last ≡ ending_line (length endings + 1) ending)

-- at most one
abbrev pub IsOneAtMost : List (List ℕ) → Type 0
IsOneAtMost inputs = length inputs ≤ 1

-- what a door tells where serving was cut: at most one input was taken and not answered, no more were taken than are to be served,
-- and the door was opened at these addresses, or could not be opened
pub record HasStopped (graph : List Triple) (before after : DoorSeen) (addresses : List (List ℕ)) (count : ℕ) (endings : List Ending) : Type 0 where
  pub unanswered : List (List ℕ)
  pub visits : HasVisits graph before after endings unanswered
  pub few : IsOneAtMost unanswered
  pub within : length endings + length unanswered ≤ count
  pub opened : IsOpen after addresses ⊎ IsShut before after

-- connections were served, each with its line, and then the door failed or memory ran out, which has a line
abbrev pub IsCut : DoorSeen → DoorSeen → List (List ℕ) → ℕ → List Triple → List ℕ → List ℕ → List ℕ → Type 0
IsCut before after addresses count graph line lines last = (endings : List Ending) × (length endings ≤ count) × (IsTrue before.tells → HasStopped graph before after addresses count endings) × (lines ≡ ending_lines 1 endings) × (last ≡ line)

-- what serving reports, over a graph and at a door that was opened at these addresses: the lines that are whole, and the last
abbrev pub IsServingReported : DoorSeen → DoorSeen → List (List ℕ) → ℕ → List Triple → Status → List ℕ → List ℕ → Type 0
IsServingReported before after addresses count graph status.Done lines last = IsDone count before after addresses graph lines last
IsServingReported before after addresses count graph status.WriteFault lines last = IsUnwritten before after addresses count graph lines last
IsServingReported before after addresses count graph status.DoorFault lines last = (before.faults < after.faults) × IsCut before after addresses count graph cannot_serve lines last
IsServingReported before after addresses count graph status.NoMemory lines last = IsCut before after addresses count graph no_memory lines last
IsServingReported before after addresses count graph s lines last = ⊥

-- what serving a graph reports, and that its sink of lines gained these
abbrev pub HasServingReport : DoorSeen → DoorSeen → List (List ℕ) → ℕ → List Triple → Status → SinkWritten → Type 0
HasServingReport before after addresses count graph s err =
    (lines : List ℕ) × (last : List ℕ) × IsServingReported before after addresses count graph s lines last
    × (IsTrue err.tells → Gains (err.old ++ lines) err.new err.before err.after last)
    × IsLastCut s err lines last

-- the cause of each status, and what it writes on standard error: the graph's file is read first, then its graph, and then the
-- door is opened at the address, once, for so many connections. Before that all that is seen of the door is as it was, and no line is written
-- but the last.
abbrev pub IsMemberReported : FileRead → DoorSeen → DoorSeen → List ℕ → ℕ → Status → List ℕ → List ℕ → Type 0
IsMemberReported g before after address count status.GraphRefused lines last = (e : GraphFault) × IsNoGraph g e × (lines ≡ []) × (last ≡ graph_refused e) × (after ≡ before)
IsMemberReported g before after address count status.ReadFault lines last = HasFailed g × (lines ≡ []) × (last ≡ cannot_read g.name) × (after ≡ before)
IsMemberReported g before after address count status.FileTooLong lines last = IsTooLong graph_limit g × (lines ≡ []) × (last ≡ graph_too_long g.name) × (after ≡ before)
IsMemberReported g before after address count status.NoMemory lines last = ((lines ≡ []) × (last ≡ no_memory) × (after ≡ before)) ⊎ ((graph : List Triple) × IsGraphOf g graph × IsServingReported before after (once_more before address) count graph status.NoMemory lines last)
IsMemberReported g before after address count s lines last = (graph : List Triple) × IsGraphOf g graph × IsServingReported before after (once_more before address) count graph s lines last

-- what a member reports, and that its sink of lines gained these
abbrev pub HasMemberReport : FileRead → DoorSeen → DoorSeen → List ℕ → ℕ → Status → SinkWritten → Type 0
HasMemberReport g before after address count s err = (lines : List ℕ) × (last : List ℕ) × IsMemberReported g before after address count s lines last × (IsTrue err.tells → Gains (err.old ++ lines) err.new err.before err.after last) × IsLastCut s err lines last
