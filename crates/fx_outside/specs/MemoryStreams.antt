-- What a sink in memory holds, and what its writes do.
use Rattle.std.specs.Prelude.{◌≡◌, ℕ, ◌+◌, ◌-◌, min, not, ◌&&◌, ◌||◌, ◌==◌, List, [], Option, Some, None, if◌then◌else◌, vec_len}
use Rattle.std.specs.List.{list_any}
use Rattle.fx_outside.specs.declared.memory_streams.MemorySink.{MemorySink}

-- the bytes that were written
abbrev pub held_in : MemorySink → List ℕ
held_in sink = sink.bytes.items

-- how many writes have failed
abbrev pub faults_of : MemorySink → ℕ
faults_of sink = sink.faults

-- the number of the next write, which stands still at the end of u64
abbrev pub next_write : MemorySink → ℕ
next_write sink = min (sink.calls + 1) 18446744073709551615

-- how many bytes of a piece of this size fit into a write
abbrev pub movable_of : MemorySink → ℕ → ℕ
movable_of sink size = min size (min sink.step (sink.room - vec_len sink.bytes))

-- how many bytes the next write moves of a piece of this size, or nothing where it fails
abbrev pub next_move : MemorySink → ℕ → Option ℕ
next_move sink size = if (list_any (λ (number : ℕ). number == next_write sink) sink.fails.items || ((movable_of sink size == 0) && not (size == 0))) then None else Some (movable_of sink size)

-- a sink that was just made
pub record IsFresh (sink : MemorySink) (room step : ℕ) (fails : List ℕ) : Type 0 where
  pub empty : held_in sink ≡ []
  pub faultless : faults_of sink ≡ 0
  pub first : next_write sink ≡ 1
  pub roomy : sink.room ≡ room
  pub stepping : sink.step ≡ step
  pub failing : sink.fails.items ≡ fails

-- a sink after one write: its writes are one more, and it was made the same
pub record IsAfterWrite (before after : MemorySink) : Type 0 where
  pub next : after.calls ≡ next_write before
  pub roomy : after.room ≡ before.room
  pub stepping : after.step ≡ before.step
  pub failing : after.fails ≡ before.fails
