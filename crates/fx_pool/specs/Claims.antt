-- Numbers that workers draw from one word.
use Rattle.std.specs.Prelude.{◌≡◌, ℕ, ◌+◌, ◌<◌, ◌≤◌, List, [], ◌∷◌, ◌++◌, length, sum_by, cond, eqb, ltb, slice_index}
use mathlib.Core.Option.{some}
use lib.ListN.{get_elem?}
use Rattle.fx_pool.specs.declared.claims.Drawn.{Drawn}

abbrev pub hand : ℕ → ℕ → ℕ → List ℕ → Drawn
hand parts jobs past numbers = record { parts = parts; jobs = jobs; past = past; numbers = numbers }

-- how often x was drawn
abbrev pub times : ℕ → List ℕ → ℕ
times x numbers = sum_by (λ (n : ℕ). cond {A = ℕ} (eqb n x) 1 0) numbers

-- 1 below the word, and 0 from it on
abbrev pub once_below : ℕ → ℕ → ℕ
once_below x word = cond {A = ℕ} (ltb x word) 1 0

-- what a seat knows once it has drawn n
abbrev pub with_drawn : Drawn → ℕ → Drawn
with_drawn v n = hand v.parts v.jobs (cond {A = ℕ} (ltb n v.jobs) v.past (v.past + 1)) (v.numbers ++ n ∷ [])

-- a seat with a part draws for these jobs, at most as many numbers past them as it has parts
pub record IsFair (jobs : ℕ) (v : Drawn) : Type 0 where
  pub within : v.past ≤ v.parts
  pub idle : v.parts ≡ 0 → v.numbers ≡ []
  pub same : 0 < v.parts → v.jobs ≡ jobs

-- over all seats each number below the word was drawn once, and no other; the parts are 16 in all
pub record IsClaimed (jobs : ℕ) (words : List ℕ) (views : List Drawn) : Type 0 where
  pub one : length words ≡ 1
  pub few : jobs < 4294967296
  pub whole : sum_by (λ (v : Drawn). v.parts) views ≡ 16
  pub once : (x : ℕ) → sum_by (λ (v : Drawn). times x v.numbers) views ≡ once_below x (slice_index words 0)
  pub near : slice_index words 0 ≤ jobs + sum_by (λ (v : Drawn). v.past) views
  pub reached : 0 < sum_by (λ (v : Drawn). v.past) views → jobs < slice_index words 0
  pub fair : (seat : ℕ) (v : Drawn) → get_elem? views seat ≡ some v → IsFair jobs v

-- what two seats know together
abbrev pub with_both : Drawn → Drawn → Drawn
with_both v w = hand (v.parts + w.parts) v.jobs (v.past + w.past) (v.numbers ++ w.numbers)

-- a seat that drew nothing, and holds nothing
abbrev pub IsFresh : ℕ → Drawn × List (ℕ × ℕ) → Type 0
IsFresh jobs me = (me.1 ≡ []) × (0 < me.0.parts) × (me.0.jobs ≡ jobs) × (me.0.past ≡ 0) × (me.0.numbers ≡ [])

-- the parts are as before, and it holds nothing
abbrev pub IsSameSeat : Drawn × List (ℕ × ℕ) → Drawn × List (ℕ × ℕ) → Type 0
IsSameSeat me after = (after.1 ≡ []) × (after.0.parts ≡ me.0.parts) × (after.0.jobs ≡ me.0.jobs)
