-- What a run leaves of a sink that it writes to.
use Rattle.std.specs.Prelude.{◌≡◌, ◌⊎◌, ℕ, Bool, List, ◌++◌, IsTrue}
use Rattle.fx_outside.specs.Faults.{HasRisen}
use Rattle.fx_outside.specs.Streams.{AppendsFront}
use Rattle.fx_local.specs.declared.statuses.Status.{Status}
use Rattle.fx_local.specs.declared.statuses.Status.TheVariants as status

-- whether it tells what it holds, what it held before the call and after it, and how often a write to it had failed by then
pub record SinkWritten : Type 0 where
  pub tells : Bool
  pub old : List ℕ
  pub new : List ℕ
  pub before : ℕ
  pub after : ℕ

abbrev pub sink_written : {S : Type 0} → Bool → (S → List ℕ) → (S → ℕ) → S → S → SinkWritten
sink_written tells held faults old new = record { tells = tells; old = held old; new = held new; before = faults old; after = faults new }

-- a write failed
abbrev pub HasFailed : SinkWritten → Type 0
HasFailed s = HasRisen s.before s.after

-- nothing was written, and no write failed
abbrev pub IsUntouched : SinkWritten → Type 0
IsUntouched s = (IsTrue s.tells → s.new ≡ s.old) × (s.after ≡ s.before)

-- a text that is so was written whole, and no write failed
abbrev pub HasGained : (List ℕ → Type 0) → SinkWritten → Type 0
HasGained P s = (IsTrue s.tells → (text : List ℕ) × P text × (s.new ≡ s.old ++ text)) × (s.after ≡ s.before)

-- a write to standard output failed, and then nothing was written on standard error
abbrev pub IsCutOff : SinkWritten → SinkWritten → Type 0
IsCutOff out err = HasFailed out × IsUntouched err

-- that, or the document was written whole, and a write of the lines behind it failed
abbrev pub IsCutShort : (List ℕ → Type 0) → SinkWritten → SinkWritten → Type 0
IsCutShort P out err = IsCutOff out err ⊎ (HasGained P out × HasFailed err)

-- what each status leaves on a sink: with `Done` a text that is so, with `WriteFault` a front of one, and else nothing new
abbrev pub Wrote : (List ℕ → Type 0) → Status → List ℕ → List ℕ → Type 0
Wrote P status.Done old new = (text : List ℕ) × P text × (new ≡ old ++ text)
Wrote P status.WriteFault old new = (text : List ℕ) × P text × AppendsFront old new text
Wrote P s old new = new ≡ old
