-- Fields by their names, one after another.
use Rattle.std.proofs.Common.{ℕ, List, [], ◌∷◌, Option, Some, None}
use Rattle.fx_http.specs.Fields.{only}

-- the value so far, and the values that are left
abbrev pub onward : Option (List ℕ) → List (List ℕ) → Option (List ℕ)
onward None vs = only vs
onward (Some v) [] = Some v
onward (Some v) (w ∷ vs) = None
