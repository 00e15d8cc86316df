-- Where bytes stop being a tape.
use Rattle.std.specs.Prelude.{◌≡◌, ℕ, List, [], ◌∷◌, ◌++◌, length, Result, Ok, Err}
use Rattle.fx_tape.specs.declared.tapes.Tape.{Tape}
use Rattle.fx_tape.specs.declared.tapes.TapeError.{TapeError}
use Rattle.fx_tape.specs.declared.tapes.TapeError.TheVariants as error
use Rattle.fx_tape.specs.Tapes.{IsTape}

-- some tape begins with these bytes
pub record BeginsTape (front : List ℕ) : Type 0 where
  pub more : List ℕ
  pub tape : Tape
  pub is_tape : IsTape (front ++ more) tape

-- no tape begins with some bytes and the next of those behind them; where none is behind them, they are no tape
abbrev pub EndsThere : List ℕ → List ℕ → Type 0
EndsThere front [] = (t : Tape) → ¬ IsTape front t
EndsThere front (b ∷ rest) = ¬ BeginsTape (front ++ b ∷ [])

-- some tape begins with the bytes before the place, and none with the byte at it too; or the bytes end there and are none
pub record StopsTape (bytes : List ℕ) (place : ℕ) : Type 0 where
  pub front : List ℕ
  pub rest : List ℕ
  pub split : bytes ≡ front ++ rest
  pub at : place ≡ length front
  pub begins : BeginsTape front
  pub ends : EndsThere front rest

-- what `read_tape` may answer to bytes: a tape that they are, the place where they stop being one, or want of memory
abbrev pub IsReading : List ℕ → Result Tape TapeError → Type 0
IsReading bytes (Ok t) = IsTape bytes t
IsReading bytes (Err (error.Form place)) = StopsTape bytes place
IsReading bytes (Err error.Memory) = Unit {0}
