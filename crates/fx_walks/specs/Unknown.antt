-- The occurrences of SERVICE that name no endpoint of a registry.
use Rattle.std.specs.Prelude.{ℕ, Bool, true, false, List, [], ◌∷◌, Option, Some, None, is_some, if◌then◌else◌}
use Rattle.fx_outside.specs.Endpoints.{EndpointParts}
use Rattle.fx_algebra.specs.Occurrences.{Occurrence, services}
use Rattle.fx_algebra.specs.declared.queries.Query.{Query}
use Rattle.fx_sources.specs.Registries.{number_of}

-- one of the endpoints has the IRI as its address
abbrev pub is_registered : List EndpointParts → List ℕ → Bool
is_registered endpoints iri = is_some (number_of iri endpoints)

-- the IRI of the first occurrence without SILENT that isn't registered
abbrev pub first_unknown : List EndpointParts → List Occurrence → Option (List ℕ)
first_unknown endpoints [] = None
first_unknown endpoints ((iri, true) ∷ os) = first_unknown endpoints os
first_unknown endpoints ((iri, false) ∷ os) = if is_registered endpoints iri then first_unknown endpoints os else Some iri

-- of the occurrences of a query
abbrev pub unknown_of : List EndpointParts → Query → Option (List ℕ)
unknown_of endpoints q = first_unknown endpoints (services q)
