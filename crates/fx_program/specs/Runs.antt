-- What a run does, by the command that its words are.
use Rattle.std.specs.Prelude.{◌≡◌, ℕ, Bool, List, [], ◌++◌, Option, Some, None, IsTrue, drop, take}
use Rattle.fx_outside.specs.Doors.{DoorSeen}
use Rattle.fx_traffic.specs.Gains.{WiresSeen, faults_at, wires_seen}
use Rattle.fx_wire.specs.Exchanges.{Seen}
use Rattle.fx_local.specs.declared.statuses.Status.{Status}
use Rattle.fx_local.specs.declared.statuses.Status.TheVariants as status
use Rattle.fx_commands.specs.Asking.{IsUnasked}
use Rattle.fx_words.specs.Commands.{Asked, over_file, over_members, planned, served, gated, generated}
use Rattle.fx_commands.specs.Explain.{CountsLeft, IsExplainCut, IsExplainDone, IsExplainReported, IsExplainWritten, IsExplanation}
use Rattle.fx_commands.specs.FedRefusals.{IsGivenEnd}
use Rattle.fx_local.specs.Files.{FileRead}
use Rattle.fx_commands.specs.Generator.{summary}
use Rattle.fx_local.specs.Lines.{Gains, usage_line, no_memory}
use Rattle.fx_local.specs.Local.{IsAnswer, IsReported, IsWritten}
use Rattle.fx_commands.specs.Query.{CountsDown, IsQueryCut, IsQueryDone, IsQueryReported, IsQueryWritten, IsUnionAnswer}
use Rattle.fx_local.specs.Serving.{IsLastCut, IsMemberReported}
use Rattle.fx_local.specs.Sinks.{SinkWritten, HasFailed, IsCutOff, IsCutShort, IsUntouched, Wrote}
use Rattle.fx_serve.specs.Serving.{IsServeReported}

-- words that are no command give the usage line, unless memory ran out
abbrev pub IsRefused : Status → List ℕ → Type 0
IsRefused status.Usage text = text ≡ usage_line
IsRefused status.NoMemory text = text ≡ no_memory
IsRefused s text = ⊥

-- What a run reports, by the files that its words name, if they are a command: the lines of connections, which `member` and `serve` alone write and
-- which are whole, and what is written behind them, which isn't whole where a write of theirs failed. All that is seen of the wires is as it was where the command asks no members, and all that is
-- seen of the door where it serves nothing.
abbrev pub Reports : (List ℕ → FileRead) → WiresSeen → DoorSeen → DoorSeen → Option Asked → Status → List ℕ → List ℕ → SinkWritten → Type 0
Reports read w door later None s lines text err = IsRefused s text × (lines ≡ []) × IsUnasked w × (later ≡ door)
Reports read w door later (Some (over_file graph query)) s lines text err = IsReported (read graph) (read query) s text × (lines ≡ []) × IsUnasked w × (later ≡ door)
Reports read w door later (Some (over_members registry query workers block)) s lines text err = IsQueryReported w (read registry) (read query) block s text × (lines ≡ []) × (later ≡ door)
Reports read w door later (Some (planned registry query)) s lines text err = IsExplainReported w (read registry) (read query) s text × (lines ≡ []) × (later ≡ door)
Reports read w door later (Some (served graph address count)) s lines text err = IsMemberReported (read graph) door later address count s lines text × IsUnasked w × IsLastCut s err lines text
Reports read w door later (Some (gated registry address count workers block)) s lines text err = IsServeReported (read registry) w door later address count block s lines text × IsLastCut s err lines text
Reports read w door later (Some (generated size)) s lines text err = IsGivenEnd [] s text × (lines ≡ []) × IsUnasked w × (later ≡ door)

-- what a run reports, and that its sink of lines gained these
abbrev pub HasReport : (List ℕ → FileRead) → WiresSeen → DoorSeen → DoorSeen → Option Asked → Status → SinkWritten → Type 0
HasReport read w door later asked s err = (lines : List ℕ) × (text : List ℕ) × Reports read w door later asked s lines text err × (IsTrue err.tells → Gains (err.old ++ lines) err.new err.before err.after text)

-- what a run leaves on standard output
abbrev pub Writes : (List ℕ → FileRead) → List Seen → Option Asked → Status → List ℕ → List ℕ → Type 0
Writes read before None s old new = new ≡ old
Writes read before (Some (over_file graph query)) s old new = IsWritten (read graph) (read query) s old new
Writes read before (Some (over_members registry query workers block)) s old new = IsQueryWritten before (read registry) (read query) s old new
Writes read before (Some (planned registry query)) s old new = IsExplainWritten before (read registry) (read query) s old new
Writes read before (Some (served graph address count)) s old new = new ≡ old
Writes read before (Some (gated registry address count workers block)) s old new = new ≡ old
Writes read before (Some (generated size)) s old new = Wrote (λ text. text ≡ summary size) s old new

-- What `query` and `explain` write is what the members gave, whatever is told of files and graphs: with `Done` the document, or the text of the plan, and a line for each member that is left out and each
-- occurrence that is down in it, and with `WriteFault` a front of the document or the text.
abbrev pub WritesGiven : (List ℕ → FileRead) → WiresSeen → Option Asked → Status → SinkWritten → SinkWritten → Type 0
WritesGiven read w (Some (over_members registry query workers block)) s out err =
    (s ≡ status.Done → IsQueryDone w (read registry) (read query) block out err) × (s ≡ status.WriteFault → IsQueryCut w (read registry) (read query) block out)
WritesGiven read w (Some (planned registry query)) s out err = (s ≡ status.Done → IsExplainDone w (read registry) (read query) out err) × (s ≡ status.WriteFault → IsExplainCut w (read registry) (read query) out)
WritesGiven read w asked s out err = Unit {0}

-- Which write failed, with the status `WriteFault`: for `local`, `query` and `explain` one of the document or the text, or of the lines behind it, for `generate` one on
-- standard output alone, and for `member` and `serve` one of their lines.
abbrev pub FailsToWrite : (List ℕ → FileRead) → List Seen → Option Asked → SinkWritten → SinkWritten → Type 0
FailsToWrite read before None out err = ⊥
FailsToWrite read before (Some (over_file graph query)) out err = IsCutShort (IsAnswer (read graph) (read query)) out err
FailsToWrite read before (Some (over_members registry query workers block)) out err = IsCutShort (IsUnionAnswer before (read registry) (read query)) out err
FailsToWrite read before (Some (planned registry query)) out err = IsCutShort (IsExplanation before (read registry) (read query)) out err
FailsToWrite read before (Some (served graph address count)) out err = IsUntouched out × HasFailed err
FailsToWrite read before (Some (gated registry address count workers block)) out err = IsUntouched out × HasFailed err
FailsToWrite read before (Some (generated size)) out err = IsCutOff out err

-- How many faults a run that is done counts at each address, by wires that count each address alone: none, but for `query` and `explain` at least as many as their lines say that the wire failed, and
-- where no member is left out exactly so many. What `serve` counts is said of each connection.
abbrev pub CountsEndpoints : (List ℕ → FileRead) → Option Asked → List Seen → List Seen → SinkWritten → Type 0
CountsEndpoints read (Some (over_members registry query workers block)) before after err = CountsDown (read registry) (read query) before after err
CountsEndpoints read (Some (planned registry query)) before after err = CountsLeft (read registry) before after err
CountsEndpoints read (Some (gated registry address count workers block)) before after err = Unit {0}
CountsEndpoints read asked before after err = (address : List ℕ) → faults_at after address ≡ faults_at before address

-- how many wires a run uses at most, from the first on: none where it asks no members
abbrev pub wires_used : Option Asked → ℕ
wires_used None = 0
wires_used (Some (over_file graph query)) = 0
wires_used (Some (over_members registry query workers block)) = workers
wires_used (Some (planned registry query)) = 4
wires_used (Some (served graph address count)) = 0
wires_used (Some (gated registry address count workers block)) = workers
wires_used (Some (generated size)) = 0

-- So many wires at most are used, from the first on: what they are before and after. The others are as they were.
abbrev pub OnUsed : {W : Type 0} → ℕ → List W → List W → (List W → List W → Type 0) → Type 0
OnUsed {W} most old new P = (later : List W) × (new ≡ later ++ drop most old) × P (take most old) later

-- the same of what is seen of them
abbrev pub OnWires : {W : Type 0} → Bool → Bool → (W → Seen) → ℕ → List W → List W → (WiresSeen → Type 0) → Type 0
OnWires tells alone seen most old new P = OnUsed most old new (λ used later. P (wires_seen tells alone seen used later))
