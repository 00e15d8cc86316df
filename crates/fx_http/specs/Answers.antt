-- What an answer says where want of memory is free, and a fault of reading has its own clause.
use Rattle.std.specs.Prelude.{◌≡◌, ℕ, ◌≤◌, List, drop, Result, Ok, Err}
use Rattle.fx_http.specs.declared.replies.ReplyError.{ReplyError}
use Rattle.fx_http.specs.declared.replies.ReplyError.TheVariants.{Memory}
use Rattle.fx_http.specs.declared.read_requests.RequestError.{RequestError}
use Rattle.fx_http.specs.declared.read_requests.RequestError.TheVariants as asked

-- unless memory ran out, P holds of the answer
abbrev pub Gives : Result (List ℕ) ReplyError → (Result (List ℕ) ReplyError → Type 0) → Type 0
Gives (Err Memory) P = Unit {0}
Gives (Ok body) P = P (Ok body)
Gives (Err fault) P = P (Err fault)

-- the answer is this one, unless memory ran out
abbrev pub IsOrMemory : Result (List ℕ) ReplyError → Result (List ℕ) ReplyError → Type 0
IsOrMemory (Err Memory) wanted = Unit {0}
IsOrMemory (Ok body) wanted = Ok body ≡ wanted
IsOrMemory (Err fault) wanted = Err fault ≡ wanted

-- unless memory ran out or a read failed, P holds of the answer to a request
abbrev pub GivesAsked : Result (List ℕ) RequestError → (Result (List ℕ) RequestError → Type 0) → Type 0
GivesAsked (Err asked.Memory) P = Unit {0}
GivesAsked (Err asked.Fault) P = Unit {0}
GivesAsked (Ok text) P = P (Ok text)
GivesAsked (Err error) P = P (Err error)

-- the answer to a request is this one, unless memory ran out or a read failed
abbrev pub IsOrLost : Result (List ℕ) RequestError → Result (List ℕ) RequestError → Type 0
IsOrLost (Err asked.Memory) wanted = Unit {0}
IsOrLost (Err asked.Fault) wanted = Unit {0}
IsOrLost (Ok text) wanted = Ok text ≡ wanted
IsOrLost (Err error) wanted = Err error ≡ wanted

-- what is left after at most so many bytes were taken from the front
abbrev pub IsRestWithin : ℕ → List ℕ → List ℕ → Type 0
IsRestWithin most before after = (n : ℕ) × (n ≤ most) × (after ≡ drop n before)
