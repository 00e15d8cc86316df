-- Parcels of rows on their way through the units of a run, and what was finished of them. (FedX: bound joins.)
use Rattle.std.specs.Prelude.{◌≡◌, ◌<◌, ◌+◌, ◌++◌, ℕ, List, [], ◌∷◌, map, cond, eqb, Option, Some, None, IsPermutation, slice_get, sum_by}
use Rattle.std.specs.List.{flat_map}
use Rattle.fx_terms.specs.declared.triples.Triple.{Triple}
use Rattle.fx_outside.specs.Endpoints.{EndpointParts}
use Rattle.fx_algebra.specs.Units.{step}
use Rattle.fx_algebra.specs.declared.units.Row.{Row}
use Rattle.fx_algebra.specs.declared.units.Unit as unit
use Rattle.fx_traffic.specs.Batches.{AreCut, IsSized, batches_sent, unit_sent}
use Rattle.fx_traffic.specs.Sent.{Sent}
use Rattle.fx_flows.specs.declared.parcels.RunShape.{RunShape}
use Rattle.fx_flows.specs.declared.parcels.Parcel.{Parcel}

-- a parcel of a run with this shape: it enters one of its units, and has a row, and no more than a batch may have
pub record IsParcelOf (c : RunShape) (p : Parcel) : Type 0 where
  pub same : p.shape ≡ c
  pub below : p.step < c.units
  pub sized : IsSized c.block p.rows

abbrev pub parcel : RunShape → ℕ → List Row → Parcel
parcel c k rows = record { shape = c; step = k; rows = rows }

-- batches that enter the unit of a number
abbrev pub parcels : RunShape → ℕ → List (List Row) → List Parcel
parcels c k batches = map (parcel c k) batches

-- the same parcels, each as often: every weight says so
abbrev pub SameParcels : List Parcel → List Parcel → Type 0
SameParcels xs ys = (h : Parcel → ℕ) → sum_by h xs ≡ sum_by h ys

-- ---- what is finished

-- a parcel that was finished, the rows that were found for it, and the batches into which these were cut for the next unit
pub record Finished : Type 0 where
  pub of : Parcel
  pub found : List Row
  pub cut : List (List Row)

-- in as few batches as their number allows; behind the last unit they aren't cut
pub record IsFinished (c : RunShape) (f : Finished) : Type 0 where
  pub of_run : IsParcelOf c f.of
  pub last : f.of.step + 1 ≡ c.units → f.cut ≡ []
  pub more : f.of.step + 1 < c.units → AreCut f.found c.block f.cut

-- the parcels that it made
abbrev pub next_of : Finished → List Parcel
next_of f = parcels f.of.shape (f.of.step + 1) f.cut

abbrev pub created : List Finished → List Parcel
created spent = flat_map next_of spent

abbrev pub of_finished : List Finished → List Parcel
of_finished spent = map (λ f. f.of) spent

-- the rows behind the last unit
abbrev pub made_at : RunShape → ℕ → List Row → List Row
made_at c k found = cond (eqb (k + 1) c.units) found []

abbrev pub made_by : RunShape → Finished → List Row
made_by c f = made_at c f.of.step f.found

abbrev pub made : RunShape → List Finished → List Row
made c spent = flat_map (made_by c) spent

-- what was found is what the unit makes of the parcel's rows
abbrev pub IsStepOf : List Triple → List unit.Unit → Finished → Type 0
IsStepOf graph us f = (u : unit.Unit) → slice_get us f.of.step ≡ Some u → IsPermutation f.found (step graph u f.of.rows)

-- ---- what parcels send

-- no unit sends nothing
abbrev pub sent_for : List EndpointParts → Option unit.Unit → List Row → List Sent
sent_for es None rows = []
sent_for es (Some u) rows = unit_sent es u rows

-- each parcel to the members of its unit
abbrev pub parcel_sent : List EndpointParts → List unit.Unit → Parcel → List Sent
parcel_sent es us p = sent_for es (slice_get us p.step) p.rows

abbrev pub parcels_sent : List EndpointParts → List unit.Unit → List Parcel → List Sent
parcels_sent es us ps = flat_map (parcel_sent es us) ps

-- the rows of those that enter the unit of a number
abbrev pub at_step : ℕ → Parcel → List (List Row)
at_step k p = cond (eqb p.step k) (p.rows ∷ []) []

abbrev pub entering_at : ℕ → List Parcel → List (List Row)
entering_at k ps = flat_map (at_step k) ps

-- unit after unit, from the one of a number on
abbrev pub sent_in_turn : List EndpointParts → ℕ → List unit.Unit → List Parcel → List Sent
sent_in_turn es k [] ps = []
sent_in_turn es k (u ∷ us) ps = batches_sent es u (entering_at k ps) ++ sent_in_turn es (k + 1) us ps
