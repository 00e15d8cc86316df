-- Which occurrences of SERVICE SILENT are down.
use Rattle.std.specs.Prelude.{◌≡◌, ℕ, suc, List, [], ◌∷◌, map, All, if◌then◌else◌}
use Rattle.fx_outside.specs.Endpoints.{EndpointParts}
use Rattle.fx_algebra.specs.declared.queries.Query.{Query}
use Rattle.fx_services.specs.Beside.{Occurrence}
use Rattle.fx_services.specs.declared.noted.Down.{Down}
use Rattle.fx_walks.specs.Unknown.{is_registered}
use Rattle.fx_outcomes.specs.Calls.{Call, IsPassed, down_in, occurrences}

-- the numbers of occurrences that name no endpoint, from a number on
abbrev pub unregistered : List EndpointParts → ℕ → List Occurrence → List ℕ
unregistered endpoints n [] = []
unregistered endpoints n (o ∷ os) = if is_registered endpoints o.iri then unregistered endpoints (suc n) os else n ∷ unregistered endpoints (suc n) os

-- Each occurrence of the query came to rows, or to a reason why it has none. Those with a reason are silent, and are what is down, by their numbers.
pub record AreDown (asked : Query) (noted : List Down) : Type 0 where
  pub calls : List Call
  pub all_called : map (λ c. c.of) calls ≡ occurrences asked
  pub passed : All IsPassed calls
  pub noted_are : noted ≡ down_in calls
