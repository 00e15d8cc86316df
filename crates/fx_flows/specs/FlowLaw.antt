-- What holds of the parcels of a run after every list of events: parcels are put for others and taken by one, and finished. (FedX: bound joins.)
use Rattle.std.specs.Prelude.{◌≡◌, ◌<◌, ◌≤◌, ◌+◌, ◌/◌, ◌++◌, ℕ, List, [], ◌∷◌, Some, length, drop, slice_get, IsPermutation, sum_by}
use Rattle.std.specs.List.{flat_map}
use Rattle.fx_terms.specs.declared.triples.Triple.{Triple}
use Rattle.fx_outside.specs.Endpoints.{EndpointParts}
use Rattle.fx_algebra.specs.Units.{step}
use Rattle.fx_algebra.specs.declared.units.Row.{Row}
use Rattle.fx_algebra.specs.declared.units.Unit as unit
use Rattle.fx_steps.specs.Steps.{stepped}
use Rattle.fx_traffic.specs.Batches.{AreCut, IsRunSent, joined}
use Rattle.fx_flows.specs.Parcels.{Finished, IsFinished, IsStepOf, SameParcels, created, entering_at, made_by, next_of, of_finished, parcels, sent_in_turn}
use Rattle.fx_flows.specs.declared.parcels.RunShape.{RunShape}
use Rattle.fx_flows.specs.declared.parcels.Parcel.{Parcel}

-- the parcels in hand, those that wait, what was finished, in that order, and the rows behind the last unit
pub record State : Type 0 where
  pub held : List Parcel
  pub waiting : List Parcel
  pub spent : List Finished
  pub done : List Row

pub data Event : Type 0 where
  put : Parcel → Event
  take : Parcel → Event
  finish : Finished → Event

-- one that is put was in hand, and waits; one that is taken waited, and is in hand; in place of one that is finished those that it
-- made are in hand, or its rows are done
abbrev pub Changes : List Triple → List unit.Unit → RunShape → State → Event → State → Type 0
Changes graph us c s (put p) t = SameParcels s.held (p ∷ t.held) × SameParcels t.waiting (p ∷ s.waiting) × (t.spent ≡ s.spent) × (t.done ≡ s.done)
Changes graph us c s (take p) t = SameParcels t.held (p ∷ s.held) × SameParcels s.waiting (p ∷ t.waiting) × (t.spent ≡ s.spent) × (t.done ≡ s.done)
Changes graph us c s (finish f) t =
    IsFinished c f × IsStepOf graph us f
    × SameParcels (f.of ∷ t.held) (next_of f ++ s.held) × SameParcels t.waiting s.waiting × (t.spent ≡ s.spent ++ f ∷ []) × (t.done ≡ s.done ++ made_by c f)

-- one event after the other
abbrev pub Leads : List Triple → List unit.Unit → RunShape → State → List Event → State → Type 0
Leads graph us c s [] t = s ≡ t
Leads graph us c s (e ∷ events) t = (next : State) × Changes graph us c s e next × Leads graph us c next events t

-- at the begin rows are cut into parcels for the first unit, which are in hand
abbrev pub begun : RunShape → List (List Row) → State
begun c batches = record { held = parcels c 0 batches; waiting = []; spent = []; done = [] }

-- the rows that the units from its own on make of a parcel's rows
abbrev pub owed_by : List Triple → List unit.Unit → Parcel → List Row
owed_by graph us p = stepped graph (drop p.step us) p.rows

abbrev pub owed : List Triple → List unit.Unit → List Parcel → List Row
owed graph us ps = flat_map (owed_by graph us) ps

-- all parcels that there were: they are finished, in hand, or wait
abbrev pub there : State → List Parcel
there s = of_finished s.spent ++ (s.held ++ s.waiting)

-- these batches use no row oftener than it stands there, and are no more than so many
pub record AreAmong (rows : List Row) (most : ℕ) (batches : List (List Row)) : Type 0 where
  pub unused : List Row
  pub of_rows : IsPermutation (joined batches ++ unused) rows
  pub few : length batches ≤ most

-- so it is of those that enter each unit, and of the rows that enter it by definition: one batch at most, and one more for each whole block of rows that
-- entered it or a unit before it
abbrev pub AreEntered : List Triple → ℕ → ℕ → ℕ → List unit.Unit → List Row → List Parcel → Type 0
AreEntered graph block k most [] rows ps = Unit {0}
AreEntered graph block k most (u ∷ us) rows ps =
    AreAmong rows (most + length rows / block) (entering_at k ps) × AreEntered graph block (k + 1) (most + length rows / block) us (step graph u rows) ps

-- the rows of those of the next unit are what the unit makes of the rows of its finished ones, and they are no more than these and one for each whole block of
-- the rows that it makes
pub record IsNextStep (graph : List Triple) (block k : ℕ) (u : unit.Unit) (spent : List Finished) (ps : List Parcel) : Type 0 where
  pub rows_are : IsPermutation (joined (entering_at (k + 1) ps)) (step graph u (joined (entering_at k (of_finished spent))))
  pub few : length (entering_at (k + 1) ps) ≤ length (entering_at k (of_finished spent)) + length (step graph u (joined (entering_at k (of_finished spent)))) / block

-- what holds of each state
pub record IsKept (es : List EndpointParts) (graph : List Triple) (us : List unit.Unit) (c : RunShape) (rows : List Row) (batches : List (List Row)) (s : State) : Type 0 where
  -- what was made, with the first ones, is what is finished, in hand or waits
  pub all : (h : Parcel → ℕ) → sum_by h (parcels c 0 batches) + sum_by h (created s.spent) ≡ sum_by h (of_finished s.spent) + (sum_by h s.held + sum_by h s.waiting)
  -- those of the first unit are the first ones, whatever became of them
  pub first : (h : List Row → ℕ) → sum_by h (entering_at 0 (there s)) ≡ sum_by h batches
  -- those of each other unit come of the finished ones of the unit before it
  pub next : (k : ℕ) (u : unit.Unit) → slice_get us k ≡ Some u → k + 1 < c.units → IsNextStep graph c.block k u s.spent (there s)
  -- so no unit is entered by more than the rows that enter it by definition
  pub entered : AreEntered graph c.block 0 1 us rows (there s)
  -- what is done and what is owed are the rows behind all units
  pub rows_are : IsPermutation (s.done ++ owed graph us (s.held ++ s.waiting)) (stepped graph us rows)
  -- what the finished ones send is what the run may send: of the rows that enter each unit none oftener than it is there, in no more batches than one and
  -- one more for each whole block of rows that entered it or a unit before it
  pub sent : IsRunSent es graph c.block 1 us rows (sent_in_turn es 0 us (of_finished s.spent))

-- whatever the events
abbrev pub FlowsAreKept : Type 0
FlowsAreKept = (es : List EndpointParts) (graph : List Triple) (us : List unit.Unit) (c : RunShape) (rows : List Row) (batches : List (List Row)) (events : List Event) (s : State)
    → 0 < c.block → c.units ≡ length us → 0 < length us
    → AreCut rows c.block batches
    → Leads graph us c (begun c batches) events s
    → IsKept es graph us c rows batches s
