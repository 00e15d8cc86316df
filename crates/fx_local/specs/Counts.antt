-- Which faults a run counts: none but that by which it ends.
use Rattle.std.specs.Prelude.{◌≡◌, ◌⊎◌, ℕ, ◌+◌, List, Result, Ok, Err}
use Rattle.fx_outside.specs.Faults.{HaveStayed, IsOneMoreAt}
use Rattle.fx_local.specs.declared.statuses.Status.{Status}
use Rattle.fx_local.specs.declared.statuses.Status.TheVariants as status

-- one more is counted at some name, and each other count is as it was
abbrev pub IsOneMore : (List ℕ → ℕ) → (List ℕ → ℕ) → Type 0
IsOneMore before after = (name : List ℕ) × IsOneMoreAt name before after

-- Each count is as it was, or the run ends with the status of this fault, which is counted once.
abbrev pub CountsOnly : Status → Status → (List ℕ → ℕ) → (List ℕ → ℕ) → Type 0
CountsOnly fault s before after = HaveStayed before after ⊎ ((s ≡ fault) × IsOneMore before after)

-- the same of a door, which has one count
abbrev pub CountsDoor : Status → ℕ → ℕ → Type 0
CountsDoor s before after = (after ≡ before) ⊎ ((s ≡ status.DoorFault) × (after ≡ before + 1))

-- ---- steps

-- what is counted where the file of a name gives nothing, and the run ends so for it: a reading that failed, once, at the name
abbrev pub CountsRead : List ℕ → Status → (List ℕ → ℕ) → (List ℕ → ℕ) → Type 0
CountsRead name status.ReadFault before after = IsOneMoreAt name before after
CountsRead name s before after = HaveStayed before after

-- where the file gives something nothing is counted
abbrev pub CountsLoad : {X R : Type 0} → (R → Status) → List ℕ → (List ℕ → ℕ) → (List ℕ → ℕ) → Result X R → Type 0
CountsLoad status_of name before after (Ok given) = HaveStayed before after
CountsLoad status_of name before after (Err r) = CountsRead name (status_of r) before after

-- the same where more than one file may be read
abbrev pub CountsLoads : {X R : Type 0} → (R → Status) → (List ℕ → ℕ) → (List ℕ → ℕ) → Result X R → Type 0
CountsLoads status_of before after (Ok given) = HaveStayed before after
CountsLoads status_of before after (Err r) = CountsOnly status.ReadFault (status_of r) before after
