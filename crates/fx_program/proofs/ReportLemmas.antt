-- What a refusal reports is its cause.
use Rattle.std.proofs.Common.{◌≡◌, sym, subst, refl, ℕ, List, [], Option, Some, None, inl}
use Rattle.fx_outside.specs.Doors.{DoorSeen}
use Rattle.fx_local.specs.declared.statuses.Status.TheVariants as status
use Rattle.fx_traffic.specs.Gains.{WiresSeen}
use Rattle.fx_wire.specs.Exchanges.{Seen}
use Rattle.fx_commands.specs.Asking.{IsUnasked}
use Rattle.fx_words.specs.Commands.{Asked, over_file, over_members, planned, served, gated, generated}
use Rattle.fx_commands.specs.Explain.{CountsLeft, IsExplainReported, IsExplainWritten, IsExplanation}
use Rattle.fx_commands.specs.FedRefusals.{IsGivenEnd}
use Rattle.fx_local.specs.Files.{FileRead}
use Rattle.fx_commands.specs.Generator.{summary}
use Rattle.fx_local.specs.Lines.{usage_line, no_memory}
use Rattle.fx_local.specs.Local.{IsReported}
use Rattle.fx_commands.specs.Query.{CountsDown, IsQueryReported, IsQueryWritten, IsUnionAnswer}
use Rattle.fx_local.specs.Serving.{IsLastCut, IsMemberReported}
use Rattle.fx_program.specs.Runs.{CountsEndpoints, FailsToWrite, Reports, Writes}
use Rattle.fx_local.specs.Sinks.{SinkWritten, HasFailed, IsCutOff, IsCutShort, IsUntouched, Wrote}
use Rattle.fx_local.specs.declared.statuses.Status.{Status}
use Rattle.fx_serve.specs.Serving.{IsServeReported}

pub usage_reported : (read : List ℕ → FileRead) (w : WiresSeen) (door : DoorSeen) (asked : Option Asked) (err : SinkWritten) → asked ≡ None → IsUnasked w → Reports read w door door asked status.Usage [] usage_line err
usage_reported read w door None err h u = (refl, refl, u, refl)
usage_reported read w door (Some a) err h u = cc

want_otherwise : status.NoMemory ≡ status.WriteFault → ⊥
want_otherwise is = cc

pub memory_reported : (read : List ℕ → FileRead) (w : WiresSeen) (door : DoorSeen) (asked : Option Asked) (err : SinkWritten) → IsUnasked w → Reports read w door door asked status.NoMemory [] no_memory err
memory_reported read w door None err u = (refl, refl, u, refl)
memory_reported read w door (Some (over_file g q)) err u = (refl, refl, u, refl)
memory_reported read w door (Some (over_members r q workers block)) err u = (inl (u, refl), refl, refl)
memory_reported read w door (Some (planned r q)) err u = (inl (u, refl), refl, refl)
memory_reported read w door (Some (served g a n)) err u = (inl (refl, refl, refl), u, λ is. absurd (want_otherwise is))
memory_reported read w door (Some (gated r a n workers block)) err u = (inl (record { unasked = u; untouched = refl; no_lines = refl; last_line = refl }), λ is. absurd (want_otherwise is))
memory_reported read w door (Some (generated n)) err u = (refl, refl, u, refl)

-- without memory nothing is written on standard output
pub nothing_written : (read : List ℕ → FileRead) (wires : List Seen) (asked : Option Asked) (held : List ℕ) → Writes read wires asked status.NoMemory held held
nothing_written read wires None held = refl
nothing_written read wires (Some (over_file g q)) held = refl
nothing_written read wires (Some (over_members r q workers block)) held = refl
nothing_written read wires (Some (planned r q)) held = refl
nothing_written read wires (Some (served g a n)) held = refl
nothing_written read wires (Some (gated r a n workers block)) held = refl
nothing_written read wires (Some (generated n)) held = refl

-- ---- by the command

pub file_reported : (read : List ℕ → FileRead) (w : WiresSeen) (door : DoorSeen) (asked : Option Asked) (err : SinkWritten) (g q : List ℕ) (s : Status) (text : List ℕ) → asked ≡ Some (over_file g q) → IsReported (read g) (read q) s text → IsUnasked w → Reports read w door door asked s [] text err
file_reported read w door asked err g q s text is h u = subst (λ o. Reports read w door door o s [] text err) (sym is) (h, refl, u, refl)

pub members_reported : (read : List ℕ → FileRead) (w : WiresSeen) (door : DoorSeen) (asked : Option Asked) (err : SinkWritten) (r q : List ℕ) (workers block : ℕ) (s : Status) (text : List ℕ) → asked ≡ Some (over_members r q workers block) → IsQueryReported w (read r) (read q) block s text → Reports read w door door asked s [] text err
members_reported read w door asked err r q workers block s text is h = subst (λ o. Reports read w door door o s [] text err) (sym is) (h, refl, refl)

pub plan_reported : (read : List ℕ → FileRead) (w : WiresSeen) (door : DoorSeen) (asked : Option Asked) (err : SinkWritten) (r q : List ℕ) (s : Status) (text : List ℕ) → asked ≡ Some (planned r q) → IsExplainReported w (read r) (read q) s text → Reports read w door door asked s [] text err
plan_reported read w door asked err r q s text is h = subst (λ o. Reports read w door door o s [] text err) (sym is) (h, refl, refl)

pub serving_reported : (read : List ℕ → FileRead) (w : WiresSeen) (door later : DoorSeen) (asked : Option Asked) (err : SinkWritten) (g a : List ℕ) (n : ℕ) (s : Status) (lines text : List ℕ) → asked ≡ Some (served g a n) → IsMemberReported (read g) door later a n s lines text → IsUnasked w → IsLastCut s err lines text → Reports read w door later asked s lines text err
serving_reported read w door later asked err g a n s lines text is h u cut = subst (λ o. Reports read w door later o s lines text err) (sym is) (h, u, cut)

pub gated_reported : (read : List ℕ → FileRead) (w : WiresSeen) (door later : DoorSeen) (asked : Option Asked) (err : SinkWritten) (r a : List ℕ) (n workers block : ℕ) (s : Status) (lines text : List ℕ) → asked ≡ Some (gated r a n workers block) → IsServeReported (read r) w door later a n block s lines text → IsLastCut s err lines text → Reports read w door later asked s lines text err
gated_reported read w door later asked err r a n workers block s lines text is h cut = subst (λ o. Reports read w door later o s lines text err) (sym is) (h, cut)

pub gated_written : (read : List ℕ → FileRead) (before : List Seen) (asked : Option Asked) (r a : List ℕ) (n workers block : ℕ) (s : Status) (held : List ℕ) → asked ≡ Some (gated r a n workers block) → Writes read before asked s held held
gated_written read before asked r a n workers block s held is = subst (λ o. Writes read before o s held held) (sym is) refl

pub gated_cut : (read : List ℕ → FileRead) (before : List Seen) (asked : Option Asked) (r a : List ℕ) (n workers block : ℕ) (out err : SinkWritten) → asked ≡ Some (gated r a n workers block) → IsUntouched out → HasFailed err → FailsToWrite read before asked out err
gated_cut read before asked r a n workers block out err is u h = subst (λ o. FailsToWrite read before o out err) (sym is) (u, h)

pub gated_counts : (read : List ℕ → FileRead) (asked : Option Asked) (before after : List Seen) (err : SinkWritten) (r a : List ℕ) (n workers block : ℕ) → asked ≡ Some (gated r a n workers block) → CountsEndpoints read asked before after err
gated_counts read asked before after err r a n workers block is = subst (λ o. CountsEndpoints read o before after err) (sym is) tt

pub making_reported : (read : List ℕ → FileRead) (w : WiresSeen) (door : DoorSeen) (asked : Option Asked) (err : SinkWritten) (n : ℕ) (s : Status) (text : List ℕ) → asked ≡ Some (generated n) → IsGivenEnd [] s text → IsUnasked w → Reports read w door door asked s [] text err
making_reported read w door asked err n s text is h u = subst (λ o. Reports read w door door o s [] text err) (sym is) (h, refl, u, refl)

pub making_written : (read : List ℕ → FileRead) (before : List Seen) (asked : Option Asked) (n : ℕ) (s : Status) (old new : List ℕ) → asked ≡ Some (generated n) → Wrote (λ text. text ≡ summary n) s old new → Writes read before asked s old new
making_written read before asked n s old new is h = subst (λ o. Writes read before o s old new) (sym is) h

pub making_cut : (read : List ℕ → FileRead) (before : List Seen) (asked : Option Asked) (n : ℕ) (out err : SinkWritten) → asked ≡ Some (generated n) → IsCutOff out err → FailsToWrite read before asked out err
making_cut read before asked n out err is h = subst (λ o. FailsToWrite read before o out err) (sym is) h

pub members_written : (read : List ℕ → FileRead) (before : List Seen) (asked : Option Asked) (r q : List ℕ) (workers block : ℕ) (s : Status) (old new : List ℕ) → asked ≡ Some (over_members r q workers block) → IsQueryWritten before (read r) (read q) s old new → Writes read before asked s old new
members_written read before asked r q workers block s old new is h = subst (λ o. Writes read before o s old new) (sym is) h

pub plan_written : (read : List ℕ → FileRead) (before : List Seen) (asked : Option Asked) (r q : List ℕ) (s : Status) (old new : List ℕ) → asked ≡ Some (planned r q) → IsExplainWritten before (read r) (read q) s old new → Writes read before asked s old new
plan_written read before asked r q s old new is h = subst (λ o. Writes read before o s old new) (sym is) h

pub members_cut : (read : List ℕ → FileRead) (before : List Seen) (asked : Option Asked) (r q : List ℕ) (workers block : ℕ) (out err : SinkWritten) → asked ≡ Some (over_members r q workers block) → IsCutShort (IsUnionAnswer before (read r) (read q)) out err → FailsToWrite read before asked out err
members_cut read before asked r q workers block out err is h = subst (λ o. FailsToWrite read before o out err) (sym is) h

pub plan_cut : (read : List ℕ → FileRead) (before : List Seen) (asked : Option Asked) (r q : List ℕ) (out err : SinkWritten) → asked ≡ Some (planned r q) → IsCutShort (IsExplanation before (read r) (read q)) out err → FailsToWrite read before asked out err
plan_cut read before asked r q out err is h = subst (λ o. FailsToWrite read before o out err) (sym is) h

-- ---- the faults that are counted

-- a command that asks no members counts none
pub file_counts : (read : List ℕ → FileRead) (asked : Option Asked) (wires : List Seen) (err : SinkWritten) (g q : List ℕ) → asked ≡ Some (over_file g q) → CountsEndpoints read asked wires wires err
file_counts read asked wires err g q is = subst (λ o. CountsEndpoints read o wires wires err) (sym is) (λ address. refl)

pub serving_counts : (read : List ℕ → FileRead) (asked : Option Asked) (wires : List Seen) (err : SinkWritten) (g a : List ℕ) (n : ℕ) → asked ≡ Some (served g a n) → CountsEndpoints read asked wires wires err
serving_counts read asked wires err g a n is = subst (λ o. CountsEndpoints read o wires wires err) (sym is) (λ address. refl)

pub making_counts : (read : List ℕ → FileRead) (asked : Option Asked) (wires : List Seen) (err : SinkWritten) (n : ℕ) → asked ≡ Some (generated n) → CountsEndpoints read asked wires wires err
making_counts read asked wires err n is = subst (λ o. CountsEndpoints read o wires wires err) (sym is) (λ address. refl)

-- one that asks members counts what its lines say at least
pub plan_counts : (read : List ℕ → FileRead) (asked : Option Asked) (before after : List Seen) (err : SinkWritten) (r q : List ℕ) → asked ≡ Some (planned r q) → CountsLeft (read r) before after err → CountsEndpoints read asked before after err
plan_counts read asked before after err r q is h = subst (λ o. CountsEndpoints read o before after err) (sym is) h

pub members_counts : (read : List ℕ → FileRead) (asked : Option Asked) (before after : List Seen) (err : SinkWritten) (r q : List ℕ) (workers block : ℕ) → asked ≡ Some (over_members r q workers block) → CountsDown (read r) (read q) before after err → CountsEndpoints read asked before after err
members_counts read asked before after err r q workers block is h = subst (λ o. CountsEndpoints read o before after err) (sym is) h
