-- What goes in and out at a door.
use Rattle.std.specs.Prelude.{◌≡◌, ◌==◌, ℕ, Bool, List, [], ◌∷◌, map, filter}

-- of a connection that is finished: what was written to it, what of its input wasn't taken, and how many of its reads and writes failed
pub record Output : Type 0 where
  pub held : List ℕ
  pub left : List ℕ
  pub read_faults : ℕ
  pub write_faults : ℕ

abbrev pub output_of : List ℕ → List ℕ → ℕ → ℕ → Output
output_of held left reads writes = record { held = held; left = left; read_faults = reads; write_faults = writes }

-- what is known of a door at a moment: whether it tells, the address of each time that it was opened, in order, what will be read from the connections that
-- are to come, what was written to those that are finished and what of their inputs wasn't taken, and how many calls have failed
pub record DoorSeen : Type 0 where
  pub tells : Bool
  pub started : List (List ℕ)
  pub inputs : List (List ℕ)
  pub outputs : List Output
  pub faults : ℕ

-- the first input was taken away, and a connection has it left and holds nothing
pub record IsTaken (before after : List (List ℕ)) (left held : List ℕ) : Type 0 where
  pub first : before ≡ left ∷ after
  pub empty : held ≡ []

-- the numbers that stand beside a connection's
abbrev pub numbers_of : ℕ → List (ℕ × ℕ) → List ℕ
numbers_of connection pairs = map (λ (pair : ℕ × ℕ). pair.1) (filter (λ (pair : ℕ × ℕ). pair.0 == connection) pairs)
