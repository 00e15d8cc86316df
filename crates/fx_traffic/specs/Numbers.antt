-- The numbers of SERVICE: an occurrence stands among the stations of its query under its place in text order.
use Rattle.std.specs.Prelude.{◌≡◌, ℕ, List, [], ◌∷◌}
use Rattle.std.specs.List.{flat_map}
use Rattle.std.proofs.Common.{suc}
use Rattle.fx_algebra.specs.Cuts.{stations}
use Rattle.fx_algebra.specs.Occurrences.{Occurrence, services}
use Rattle.fx_algebra.specs.Stations as station
use Rattle.fx_algebra.specs.declared.queries.Query.{Query}
use Rattle.fx_grammar.specs.Accepted.{Accepted}

-- occurrences by their numbers, from a number on
abbrev pub numbered_from : ℕ → List Occurrence → List (ℕ × Occurrence)
numbered_from n [] = []
numbered_from n (o ∷ os) = (n, o) ∷ numbered_from (suc n) os

-- the occurrence of a station, by its number
abbrev pub service_in : station.Station → List (ℕ × Occurrence)
service_in (station.run ps filters before) = []
service_in (station.service number silent iri g) = (number, (iri, silent)) ∷ []

-- The law: where some text is accepted as a query, the SERVICEs among its stations are its occurrences, numbered from 0 in text order.
abbrev pub StationsHaveTheNumbers : Type 0
StationsHaveTheNumbers = (text : List ℕ) (q : Query) → Accepted text q → flat_map service_in (stations q) ≡ numbered_from 0 (services q)
