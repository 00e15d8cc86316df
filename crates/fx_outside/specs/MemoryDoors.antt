-- What a door in memory holds.
use Rattle.std.specs.Prelude.{◌≡◌, ℕ, ◌+◌, ◌==◌, min, Bool, List, [], map, drop, String, Vec, string_bytes}
use Rattle.std.specs.List.{list_any}
use Rattle.std.specs.declared.alloc.Global.{Global}
use Rattle.fx_outside.specs.declared.memory_doors.MemoryDoor.{MemoryDoor}
use Rattle.fx_outside.specs.declared.memory_links.MemoryLink.{MemoryLink}
use Rattle.fx_outside.specs.Doors.{Output, numbers_of, output_of}
use Rattle.fx_outside.specs.MemoryLinks.{IsFreshLink, left_in, written_in, read_faults_of, write_faults_of}

-- the address of each time that it was opened
abbrev pub addresses_in : MemoryDoor → List (List ℕ)
addresses_in door = map (λ (address : String Global). string_bytes address) door.addresses.items

abbrev pub contents : List (Vec ℕ Global) → List (List ℕ)
contents inputs = map (λ (input : Vec ℕ Global). input.items) inputs

-- the inputs of the connections that are to come
abbrev pub inputs_in : MemoryDoor → List (List ℕ)
inputs_in door = contents (drop door.taken door.inputs.items)

abbrev pub output_in : MemoryLink → Output
output_in link = output_of (written_in link) (left_in link) (read_faults_of link) (write_faults_of link)

-- what was written to the connections that are finished, and what is left of them
abbrev pub outputs_in : MemoryDoor → List Output
outputs_in door = map output_in door.finished.items

-- how many calls have failed
abbrev pub faults_in : MemoryDoor → ℕ
faults_in door = door.faults

-- the connections that are finished
abbrev pub finished_in : MemoryDoor → List MemoryLink
finished_in door = door.finished.items

-- the number of the door's next call, which stands still at the end of u64
abbrev pub next_call : MemoryDoor → ℕ
next_call door = min (door.calls + 1) 18446744073709551615

-- whether the door's next call is to fail
abbrev pub is_failing : MemoryDoor → Bool
is_failing door = list_any (λ (number : ℕ). number == next_call door) door.fails.items

-- the number of the connection that is taken next, from 1
abbrev pub next_connection : MemoryDoor → ℕ
next_connection door = door.taken + 1

-- a door that was just made
pub record IsFreshDoor (door : MemoryDoor) (inputs : List (Vec ℕ Global)) (room step : ℕ) (fails : List ℕ) (read_fails write_fails : List (ℕ × ℕ)) : Type 0 where
  pub unstarted : addresses_in door ≡ []
  pub all : inputs_in door ≡ contents inputs
  pub none : finished_in door ≡ []
  pub faultless : faults_in door ≡ 0
  pub first : next_call door ≡ 1
  pub untaken : next_connection door ≡ 1
  pub roomy : door.room ≡ room
  pub stepping : door.step ≡ step
  pub failing : door.fails.items ≡ fails
  pub read_failing : door.read_fails.items ≡ read_fails
  pub write_failing : door.write_fails.items ≡ write_fails

-- a door after one call: its calls are one more, and it was made the same
pub record IsAfterCall (before after : MemoryDoor) : Type 0 where
  pub next : after.calls ≡ next_call before
  pub roomy : after.room ≡ before.room
  pub stepping : after.step ≡ before.step
  pub failing : after.fails ≡ before.fails
  pub read_failing : after.read_fails ≡ before.read_fails
  pub write_failing : after.write_fails ≡ before.write_fails

-- a connection as the door gives it next: its room, its step, and the numbers of the reads and writes that are to fail
abbrev pub IsFreshConnection : MemoryDoor → MemoryLink → Type 0
IsFreshConnection door link =
    IsFreshLink link (left_in link) door.room door.step (numbers_of (next_connection door) door.read_fails.items) (numbers_of (next_connection door) door.write_fails.items)
