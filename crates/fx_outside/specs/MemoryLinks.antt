-- What is left of a link in memory, what was written to it, and what its reads do.
use Rattle.std.specs.Prelude.{◌≡◌, ℕ, ◌+◌, min, ◌==◌, List, length, drop, Option, Some, None, if◌then◌else◌}
use Rattle.std.specs.List.{list_any}
use Rattle.fx_outside.specs.declared.memory_links.MemoryLink.{MemoryLink}
use Rattle.fx_outside.specs.MemoryStreams.{held_in, faults_of, IsFresh, IsAfterWrite}

-- the bytes that are left to read
abbrev pub left_in : MemoryLink → List ℕ
left_in link = drop link.at link.input.items

-- the bytes that were written
abbrev pub written_in : MemoryLink → List ℕ
written_in link = held_in link.output

-- how many reads have failed
abbrev pub read_faults_of : MemoryLink → ℕ
read_faults_of link = link.faults

-- how many writes have failed
abbrev pub write_faults_of : MemoryLink → ℕ
write_faults_of link = faults_of link.output

-- the number of the next read, which stands still at the end of u64
abbrev pub next_read : MemoryLink → ℕ
next_read link = min (link.reads + 1) 18446744073709551615

-- how many bytes the next read moves into a place of this size, or nothing where it fails
abbrev pub next_count : MemoryLink → ℕ → Option ℕ
next_count link size = if list_any (λ (number : ℕ). number == next_read link) link.fails.items then None else Some (min (min size (length (left_in link))) link.step)

-- a link that was just made
pub record IsFreshLink (link : MemoryLink) (input : List ℕ) (room step : ℕ) (read_fails write_fails : List ℕ) : Type 0 where
  pub whole : left_in link ≡ input
  pub faultless : read_faults_of link ≡ 0
  pub first : next_read link ≡ 1
  pub stepping : link.step ≡ step
  pub failing : link.fails.items ≡ read_fails
  pub output : IsFresh link.output room step write_fails

-- a link after one read: its reads are one more, and all else but its input is the same
pub record IsAfterRead (before after : MemoryLink) : Type 0 where
  pub next : after.reads ≡ next_read before
  pub stepping : after.step ≡ before.step
  pub failing : after.fails ≡ before.fails
  pub output : after.output ≡ before.output

-- a link after one write: its output is after one write, and all else is the same
pub record IsAfterLinkWrite (before after : MemoryLink) : Type 0 where
  pub next : after.reads ≡ before.reads
  pub stepping : after.step ≡ before.step
  pub failing : after.fails ≡ before.fails
  pub output : IsAfterWrite before.output after.output
