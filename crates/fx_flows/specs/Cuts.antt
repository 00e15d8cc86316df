-- Batches of rows that are filled one after the other.
use Rattle.std.specs.Prelude.{◌≡◌, ◌<◌, ◌≤◌, ◌++◌, ◌⊎◌, ℕ, List, [], ◌∷◌, Result, Ok, Err, length}
use Rattle.std.specs.declared.alloc.Global.{Global}
use Rattle.std.specs.declared.vec.Vec.{Vec}
use Rattle.fx_terms.specs.declared.allocation.Memory.{Memory}
use Rattle.fx_algebra.specs.declared.units.Row.{Row}

-- a batch with room is kept, and a full one joins the others, for an empty one in its place
abbrev pub MakesRoom : ℕ → List (List Row) → List Row → List (List Row) → Result (List Row) Memory → Type 0
MakesRoom block batches batch later (Ok next) =
    ((length batch < block) × (later ≡ batches) × (next ≡ batch)) ⊎ ((block ≤ length batch) × (later ≡ batches ++ batch ∷ []) × (next ≡ []))
MakesRoom block batches batch later (Err e) = Unit {0}

-- an empty batch is none of them
abbrev pub IsClosed : List (List Row) → List Row → Result (Vec (List Row) Global) Memory → Type 0
IsClosed batches batch (Ok all) = ((batch ≡ []) × (all.items ≡ batches)) ⊎ ((0 < length batch) × (all.items ≡ batches ++ batch ∷ []))
IsClosed batches batch (Err e) = Unit {0}
