-- Laws of tapes and of their bytes.
use Rattle.std.specs.Prelude.{◌≡◌, ℕ, List, Result, Ok, MatchResult}
use Rattle.fx_tape.specs.Refusals.{StopsTape, IsReading}
use Rattle.fx_tape.specs.Tapes.{IsInRange, IsTape, IsWriting}
use Rattle.fx_tape.specs.declared.tapes.Tape.{Tape}
use Rattle.fx_tape.specs.declared.tapes.TapeError.{TapeError}
use Rattle.fx_tape.specs.declared.tapes.TapeError.TheVariants as error

-- what is written of a tape in range is read as it, unless memory runs out
abbrev pub WrittenIsRead : Type 0
WrittenIsRead =
    (t : Tape) (bytes : List ℕ) (answer : Result Tape TapeError)
    → IsInRange t → IsWriting t bytes → IsReading bytes answer → MatchResult answer (λ read. read ≡ t) (λ e. e ≡ error.Memory)

-- and bytes that are read as it are what is written of it
abbrev pub OthersAreNot : Type 0
OthersAreNot = (t : Tape) (bytes : List ℕ) → IsReading bytes (Ok t) → IsWriting t bytes

-- bytes are one tape at most
abbrev pub OneTape : Type 0
OneTape = (bytes : List ℕ) (t u : Tape) → IsTape bytes t → IsTape bytes u → t ≡ u

-- they stop at one place at most
abbrev pub OnePlace : Type 0
OnePlace = (bytes : List ℕ) (m n : ℕ) → StopsTape bytes m → StopsTape bytes n → m ≡ n

-- a tape stops nowhere
abbrev pub NeverBoth : Type 0
NeverBoth = (bytes : List ℕ) (t : Tape) (n : ℕ) → IsTape bytes t → StopsTape bytes n → ⊥
