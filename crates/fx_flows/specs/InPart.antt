-- What of batches was sent where a fault, or want of memory, ended a run: of some every text, of a few some of them, and of the others none.
use Rattle.std.specs.Prelude.{◌≤◌, ◌++◌, ℕ, List, [], IsPermutation, length}
use Rattle.std.specs.List.{flat_map}
use Rattle.fx_outside.specs.Endpoints.{EndpointParts}
use Rattle.fx_bound.specs.Parts.{Parts}
use Rattle.fx_traffic.specs.Batches.{unit_sent}
use Rattle.fx_traffic.specs.Sent.{Sent, Sends}
use Rattle.fx_wire.specs.Exchanges.{Exchange}

-- each of these batches to each member of its unit, once
abbrev pub part_sent : List EndpointParts → Parts → List Sent
part_sent es p = unit_sent es p.unit p.rows

abbrev pub parts_sent : List EndpointParts → List Parts → List Sent
parts_sent es ps = flat_map (part_sent es) ps

-- What is wanted is what batches send. Of those that were ended each text was sent to each member, of those that were begun, no more than so many, some were sent, each once at most, and of the
-- rest none.
pub record AreSentInPart (es : List EndpointParts) (most : ℕ) (wanted : List Sent) (xs : List Exchange) : Type 0 where
  pub ended : List Parts
  pub begun : List Parts
  pub rest : List Parts
  pub all : IsPermutation (parts_sent es ended ++ (parts_sent es begun ++ parts_sent es rest)) wanted
  pub few : length begun ≤ most
  pub of_ended : List Exchange
  pub of_begun : List Exchange
  pub parted : IsPermutation (of_ended ++ of_begun) xs
  pub sent : Sends (parts_sent es ended) [] of_ended
  pub left : List Sent
  pub tied : Sends (parts_sent es begun) left of_begun
