-- Where bytes stop being UTF-8.
use Rattle.std.specs.Prelude.{◌≡◌, ℕ, ◌+◌, ◌<◌, ◌≤◌, if◌then◌else◌, List, ◌++◌, length, take, drop, slice_index, Option, Some, None}
use Rattle.std.specs.Int.{is_in_range}
use Rattle.std.specs.Str.{IsUtf8}
use Rattle.std.specs.Str.Lossy.{utf8_valid_len, utf8_error_len}

-- UTF-8 begins with the bytes
abbrev pub BeginsUtf8 : List ℕ → Type 0
BeginsUtf8 s = (w : List ℕ) × IsUtf8 (s ++ w)

-- UTF-8 begins with the bytes before a place, and none with those and the next; or the bytes end there, inside a character
pub record StopsUtf8 (bytes : List ℕ) (place : ℕ) : Type 0 where
  pub faulty : IsUtf8 bytes → ⊥
  pub within : place ≤ length bytes
  pub before : BeginsUtf8 (take place bytes)
  pub there : place < length bytes → BeginsUtf8 (take (place + 1) bytes) → ⊥

-- the law: bytes that aren't UTF-8 stop being it at one place
pub record StopOnce : Type 0 where
  pub somewhere : (bytes : List ℕ) → (IsUtf8 bytes → ⊥) → (place : ℕ) × StopsUtf8 bytes place
  pub once : (bytes : List ℕ) (a b : ℕ) → StopsUtf8 bytes a → StopsUtf8 bytes b → a ≡ b

-- ---- how the place is found

-- of bytes with which no character begins: how many at the front begin one; all of them where they end first
abbrev pub begun : ℕ → List ℕ → Option ℕ → ℕ
begun first bytes None = length bytes
begun first bytes (Some n) = if is_in_range 0xC2 0xF4 first then n else 0

-- the first byte such that no UTF-8 begins with the bytes up to it, or the number of bytes where they end inside a character
abbrev pub utf8_fault : List ℕ → ℕ
utf8_fault bytes =
    let n = utf8_valid_len bytes in
    n + begun (slice_index bytes n) (drop n bytes) (utf8_error_len (drop n bytes))
