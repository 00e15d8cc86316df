-- A queue of parcels that workers share: over all passes, what was put is what was taken and what the queue holds.
use Rattle.std.specs.Prelude.{◌≡◌, ◌<◌, ◌+◌, ◌-◌, ◌/◌, ◌++◌, ◌⊎◌, ℕ, List, [], ◌∷◌, Option, Some, None, All, sum_by}
use mathlib.Core.Option.{some}
use lib.ListN.{get_elem?}
use Rattle.fx_flows.specs.Parcels.{IsParcelOf}
use Rattle.fx_flows.specs.declared.lines.Hand.{Hand}
use Rattle.fx_flows.specs.declared.parcels.RunShape.{RunShape}
use Rattle.fx_flows.specs.declared.parcels.Parcel.{Parcel}

abbrev pub hand : ℕ → Option RunShape → List Parcel → List Parcel → Hand
hand parts shape put took = record { parts = parts; shape = shape; put = put; took = took }

-- what a pass knows once it has put a parcel, and once it has taken one
abbrev pub with_put : Hand → Parcel → Hand
with_put v p = hand v.parts (Some p.shape) (v.put ++ p ∷ []) v.took

abbrev pub with_taken : Hand → Parcel → Hand
with_taken v p = hand v.parts v.shape v.put (v.took ++ p ∷ [])

-- the half of its parts that stays with it, and the other half, which has put and taken nothing
abbrev pub own_half : Hand → Hand
own_half v = hand (v.parts - v.parts / 2) v.shape v.put v.took

abbrev pub other_half : Hand → Hand
other_half v = hand (v.parts / 2) v.shape [] []

-- what two passes know together
abbrev pub with_both : Hand → Hand → Hand
with_both v w = hand (v.parts + w.parts) v.shape (v.put ++ w.put) (v.took ++ w.took)

-- a parcel of the run whose shape is known; none is known before the first is put
abbrev pub IsOf : Option RunShape → Parcel → Type 0
IsOf None p = ⊥
IsOf (Some c) p = IsParcelOf c p

-- a pass with every part may put the first parcel, and that tells the shape
abbrev pub MayPut : RunShape → Hand → Type 0
MayPut c v = (v.shape ≡ Some c) ⊎ ((v.shape ≡ None) × (v.parts ≡ 16))

pub record IsBalanced (items : List Parcel) (views : List Hand) : Type 0 where
  pub whole : sum_by (λ (v : Hand). v.parts) views ≡ 16
  pub even : (h : Parcel → ℕ) → sum_by (λ (v : Hand). sum_by h v.put) views ≡ sum_by (λ (v : Hand). sum_by h v.took) views + sum_by h items
  pub idle : (pass : ℕ) (v : Hand) → get_elem? views pass ≡ some v → v.parts ≡ 0 → (v.put ≡ []) × (v.took ≡ [])
  pub shape : Option RunShape
  pub same : (pass : ℕ) (v : Hand) → get_elem? views pass ≡ some v → 0 < v.parts → v.shape ≡ shape
  pub good : All (IsOf shape) items
