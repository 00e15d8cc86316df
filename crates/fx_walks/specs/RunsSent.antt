-- What is sent for the runs among stations; the texts of SERVICEs are sent apart from them.
use Rattle.std.specs.Prelude.{◌≡◌, ℕ, List, [], ◌∷◌, ◌++◌, map}
use Rattle.fx_terms.specs.declared.triples.Triple.{Triple}
use Rattle.fx_outside.specs.Endpoints.{EndpointParts}
use Rattle.fx_algebra.specs.Graphs.{union}
use Rattle.fx_algebra.specs.Solutions.{Bindings}
use Rattle.fx_algebra.specs.Stations.{Station}
use Rattle.fx_algebra.specs.Stations as station
use Rattle.fx_algebra.specs.Units.{sources}
use Rattle.fx_traffic.specs.Sent.{Sent}
use Rattle.fx_traffic.specs.Traffic.{IsPlanSent}

-- what a run sends where these rows enter it; nothing is sent here for a SERVICE
abbrev pub IsSentForRun : List EndpointParts → List (List Triple) → ℕ → Station → List Bindings → List Sent → Type 0
IsSentForRun endpoints graphs block (station.run ps filters before) rows wanted = IsPlanSent endpoints (union graphs) block ps (map (sources graphs) ps) filters before rows wanted
IsSentForRun endpoints graphs block (station.service number silent iri g) rows wanted = wanted ≡ []

abbrev pub AreRunsSent : List EndpointParts → List (List Triple) → ℕ → List Station → List (List Bindings) → List Sent → Type 0
AreRunsSent endpoints graphs block [] [] wanted = wanted ≡ []
AreRunsSent endpoints graphs block [] (rows ∷ entering) wanted = ⊥
AreRunsSent endpoints graphs block (s ∷ all) [] wanted = ⊥
AreRunsSent endpoints graphs block (s ∷ all) (rows ∷ entering) wanted =
    (own : List Sent) × (rest : List Sent) × (wanted ≡ own ++ rest) × IsSentForRun endpoints graphs block s rows own × AreRunsSent endpoints graphs block all entering rest
