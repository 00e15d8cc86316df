-- What the occurrences of SERVICE come to where no endpoint is registered.
use Rattle.std.specs.Prelude.{ℕ, suc, true, false, List, [], ◌∷◌, Option, Some, None}
use Rattle.std.specs.List.{flat_map}
use Rattle.fx_algebra.specs.Occurrences.{Occurrence}
use Rattle.fx_local.specs.Lines.{silent_unknown}

-- the IRI of the first occurrence without SILENT
abbrev pub first_plain : List Occurrence → Option (List ℕ)
first_plain [] = None
first_plain ((iri, true) ∷ os) = first_plain os
first_plain ((iri, false) ∷ os) = Some iri

-- the numbers of occurrences, from a number on
abbrev pub numbered : ℕ → List Occurrence → List ℕ
numbered n [] = []
numbered n (o ∷ os) = n ∷ numbered (suc n) os

-- the numbers of all occurrences
abbrev pub all_numbers : List Occurrence → List ℕ
all_numbers os = numbered 0 os

-- a line for each
abbrev pub silent_lines : List Occurrence → List ℕ
silent_lines os = flat_map (λ o. silent_unknown o.0) os
