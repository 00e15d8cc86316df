-- The values of the pairs of a name, one after another.
use Rattle.std.proofs.Common.{ℕ, List, ◌∷◌, map, Option, Some, None}
use Rattle.std.specs.Prelude.{codes, filter, bytes_eq}
use Rattle.fx_http.specs.Forms.{decoded}

-- the values of the pairs that are named `query`
abbrev pub query_values : List (List ℕ × List ℕ) → List (List ℕ)
query_values pairs = map (λ (pair : List ℕ × List ℕ). decoded pair.1) (filter (λ pair. bytes_eq (decoded pair.0) (codes "query")) pairs)

-- the value so far, still encoded, in front of those that are left
abbrev pub onward : Option (List ℕ) → List (List ℕ) → List (List ℕ)
onward None vs = vs
onward (Some raw) vs = decoded raw ∷ vs
