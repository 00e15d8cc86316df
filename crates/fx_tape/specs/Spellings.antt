-- Which bytes spell which values, and what a function answers that reads such bytes from the front on.
use Rattle.std.specs.Prelude.{◌≡◌, ◌⊎◌, ℕ, List, [], ◌∷◌, ◌++◌, length, Result, Ok, Err}
use Rattle.fx_tape.specs.declared.faults.Stop.{Stop}
use Rattle.fx_tape.specs.declared.faults.Stop.TheVariants.{At, Memory}

-- these bytes spell this value
abbrev pub Spelling : Type 0 → Type 1
Spelling A = List ℕ → A → Type 0

-- one, and then another that depends on what the first spells
abbrev pub then_by : {A B : Type 0} → Spelling A → (A → Spelling B) → Spelling B
then_by {A} s t bytes y = (x : A) × (front back : List ℕ) × (bytes ≡ front ++ back) × s front x × t x back y

-- the same, as another value
abbrev pub made : {A B : Type 0} → (A → B) → Spelling A → Spelling B
made {A} f s bytes y = (x : A) × s bytes x × (y ≡ f x)

-- one behind a byte, or another behind another
abbrev pub either_by : {A : Type 0} → ℕ → Spelling A → ℕ → Spelling A → Spelling A
either_by b s c t bytes x = ((rest : List ℕ) × (bytes ≡ b ∷ rest) × s rest x) ⊎ ((rest : List ℕ) × (bytes ≡ c ∷ rest) × t rest x)

-- nothing is spelled by bytes that begin with these and with the next of those behind them
abbrev pub EndsAt : {A : Type 0} → Spelling A → List ℕ → List ℕ → Type 0
EndsAt s front [] = Unit {0}
EndsAt {A} s front (b ∷ rest) = (more : List ℕ) (x : A) → s (front ++ b ∷ more) x → ⊥

-- the bytes before a place begin what spells a value, which has a byte more at least; those up to and with the byte at the place don't
pub record Stops {A : Type 0} (s : Spelling A) (bytes : List ℕ) (left : ℕ) : Type 0 where
  pub front : List ℕ
  pub rest : List ℕ
  pub split : bytes ≡ front ++ rest
  pub place : left ≡ length rest
  pub next : ℕ
  pub more : List ℕ
  pub value : A
  pub goes_on : s (front ++ next ∷ more) value
  pub ends : EndsAt s front rest

-- the bytes begin with what spells a value, and these are behind it
pub record Begins {A : Type 0} (s : Spelling A) (bytes : List ℕ) (x : A) (rest : List ℕ) : Type 0 where
  pub front : List ℕ
  pub split : bytes ≡ front ++ rest
  pub spelled : s front x

-- where they stop, unless memory ran out
abbrev pub Halts : {A : Type 0} → Spelling A → List ℕ → Stop → Type 0
Halts s bytes (At left) = Stops s bytes left
Halts s bytes Memory = Unit {0}

-- what bytes begin with, and those behind it, or where they stop
abbrev pub Reads : {X A : Type 0} → (X → A × List ℕ) → Spelling A → List ℕ → Result X Stop → Type 0
Reads view s bytes (Ok x) = Begins s bytes (view x).0 (view x).1
Reads view s bytes (Err e) = Halts s bytes e

-- ---- what is asked of a spelling

-- bytes begin with one value at most, spelled by so many of them
pub record IsClear {A : Type 0} (s : Spelling A) : Type 0 where
  -- something is spelled, and not by no bytes
  pub first : ℕ
  pub others : List ℕ
  pub value : A
  pub some : s (first ∷ others) value
  pub same : (u v r t : List ℕ) (x y : A) → s u x → s v y → u ++ r ≡ v ++ t → (u ≡ v) × (x ≡ y)
