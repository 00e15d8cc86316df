-- What a run of triple patterns sends: for each step of its plan batches of the rows that enter it, each to the members of its unit.
-- (FedX: bound joins.)
use Rattle.std.specs.Prelude.{◌≡◌, Bool, true, false, Option, None, ℕ, ◌+◌, ◌*◌, ◌/◌, ◌<◌, ◌≤◌, List, [], ◌∷◌, ◌++◌, length, Some, All, Contains, IsPermutation, slice_get}
use Rattle.std.specs.List.{flat_map}
use Rattle.fx_terms.specs.declared.triples.Triple.{Triple}
use Rattle.fx_outside.specs.Endpoints.{EndpointParts}
use Rattle.fx_algebra.specs.Units.{step}
use Rattle.fx_algebra.specs.declared.units.Row.{Row}
use Rattle.fx_algebra.specs.declared.units.Unit as unit
use Rattle.fx_http.specs.Requests.{request_of}
use Rattle.fx_bound.specs.Parts.{Parts, places, text_of}
use Rattle.fx_values.specs.Parts as values
use Rattle.fx_traffic.specs.Sent.{Sent}

-- ---- batches of rows

abbrev pub joined : {X : Type 0} → List (List X) → List X
joined lists = flat_map (λ list. list) lists

-- a batch has a row, and no more than so many
abbrev pub IsSized : ℕ → List Row → Type 0
IsSized block batch = (0 < length batch) × (length batch ≤ block)

-- batches of some of these rows, none of which is used oftener than it stands there, and no more batches than so many
pub record AreBatchesOf (rows : List Row) (block most : ℕ) (batches : List (List Row)) : Type 0 where
  pub unused : List Row
  pub of_rows : IsPermutation (joined batches ++ unused) rows
  pub sized : All (IsSized block) batches
  pub few : length batches ≤ most

-- all of these rows in their order, in as few batches as their number allows
pub record AreCut (rows : List Row) (block : ℕ) (batches : List (List Row)) : Type 0 where
  pub of_rows : joined batches ≡ rows
  pub sized : All (IsSized block) batches
  pub few : length batches * block < length rows + block

-- ---- what they send

-- the rows of a batch that one VALUES block asks for
abbrev pub block_of : Parts → values.Parts
block_of p = record { unit = p.unit; places = places p }

-- the text of a batch, where a row is left: as one VALUES block, or with a branch for each row
abbrev pub text_in : Bool → Parts → Option (List ℕ)
text_in true p = values.text_of (block_of p)
text_in false p = text_of p

-- The text by which an endpoint is asked for a batch is in the form that it takes.
abbrev pub text_for : EndpointParts → Parts → Option (List ℕ)
text_for e p = text_in e.values p

-- a text to an endpoint, where there is one
abbrev pub text_sent : EndpointParts → Option (List ℕ) → List Sent
text_sent e None = []
text_sent e (Some text) = record { at = e; request = request_of e text } ∷ []

abbrev pub batch_sent : EndpointParts → unit.Unit → List Row → List Sent
batch_sent e u batch = text_sent e (text_for e (record { unit = u; rows = batch }))

abbrev pub to_endpoint : unit.Unit → List Row → Option EndpointParts → List Sent
to_endpoint u batch None = []
to_endpoint u batch (Some e) = batch_sent e u batch

-- to the endpoint of a member, by its number
abbrev pub member_sent : List EndpointParts → unit.Unit → List Row → ℕ → List Sent
member_sent endpoints u batch at = to_endpoint u batch (slice_get endpoints at)

-- each of the batches to each of the unit's members, once
abbrev pub unit_sent : List EndpointParts → unit.Unit → List Row → List Sent
unit_sent endpoints u batch = flat_map (member_sent endpoints u batch) u.members

abbrev pub batches_sent : List EndpointParts → unit.Unit → List (List Row) → List Sent
batches_sent endpoints u batches = flat_map (unit_sent endpoints u) batches

-- one of the texts of a batch, of no more rows than so many, of a unit of these
pub record IsBatchText (endpoints : List EndpointParts) (block : ℕ) (Of : unit.Unit → Type 0) (x : Sent) : Type 0 where
  pub unit : unit.Unit
  pub of_these : Of unit
  pub batch : List Row
  pub sized : IsSized block batch
  pub sent : Contains (unit_sent endpoints unit batch) x

-- what a step sends whose unit these rows enter
pub record IsStepSent (endpoints : List EndpointParts) (u : unit.Unit) (rows : List Row) (block most : ℕ) (wanted : List Sent) : Type 0 where
  pub batches : List (List Row)
  pub cut : AreBatchesOf rows block most batches
  pub texts : wanted ≡ batches_sent endpoints u batches

-- What the steps of a run send, where these rows enter the first of them. A step may have one batch, and one more for each whole block of
-- rows that enters it or a step before it: before the first step stand `most`, which is one at the begin of a run.
abbrev pub IsRunSent : List EndpointParts → List Triple → ℕ → ℕ → List unit.Unit → List Row → List Sent → Type 0
IsRunSent endpoints graph block most [] rows wanted = wanted ≡ []
IsRunSent endpoints graph block most (u ∷ us) rows wanted =
    (own : List Sent) × (rest : List Sent) × (wanted ≡ own ++ rest)
    × IsStepSent endpoints u rows block (most + length rows / block) own
    × IsRunSent endpoints graph block (most + length rows / block) us (step graph u rows) rest

-- ---- laws

-- rows that are cut are batches of them, one for each whole block at most and one more
abbrev pub CutsAreBatches : Type 0
CutsAreBatches = (rows : List Row) (block : ℕ) (batches : List (List Row)) → 0 < block → AreCut rows block batches → AreBatchesOf rows block (1 + length rows / block) batches

-- each list of rows beside its batches
abbrev pub AllCut : ℕ → List (List Row × List (List Row)) → Type 0
AllCut block cuts = All (λ (c : List Row × List (List Row)). AreCut c.0 block c.1) cuts

-- where lists of rows are cut, each by itself, there is one batch for each list at most, and one for each whole block of all their rows
abbrev pub CutsOfSeveral : Type 0
CutsOfSeveral = (block : ℕ) (cuts : List (List Row × List (List Row))) → 0 < block → AllCut block cuts
    → AreBatchesOf (flat_map (λ c. c.0) cuts) block (length cuts + length (flat_map (λ c. c.0) cuts) / block) (flat_map (λ c. c.1) cuts)

-- what a step makes of batches, one after the other, is what it makes of their rows
abbrev pub StepOfBatches : Type 0
StepOfBatches = (graph : List Triple) (u : unit.Unit) (batches : List (List Row)) → flat_map (step graph u) batches ≡ step graph u (joined batches)

-- in another order the same rows come of a step
abbrev pub StepInAnyOrder : Type 0
StepInAnyOrder = (graph : List Triple) (u : unit.Unit) (rows others : List Row) → IsPermutation rows others → IsPermutation (step graph u rows) (step graph u others)

-- what a run sends hangs on which rows enter it, and not on their order
abbrev pub RunInAnyOrder : Type 0
RunInAnyOrder = (endpoints : List EndpointParts) (graph : List Triple) (block most : ℕ) (us : List unit.Unit) (rows others : List Row) (wanted : List Sent)
    → IsPermutation rows others
    → IsRunSent endpoints graph block most us rows wanted
    → IsRunSent endpoints graph block most us others wanted

-- more batches than need be may be allowed
abbrev pub MoreMayBe : Type 0
MoreMayBe = (rows : List Row) (block most more : ℕ) (batches : List (List Row)) → most ≤ more → AreBatchesOf rows block most batches → AreBatchesOf rows block more batches

-- a run may send nothing
abbrev pub NothingOfARun : Type 0
NothingOfARun = (endpoints : List EndpointParts) (graph : List Triple) (block most : ℕ) (us : List unit.Unit) (rows : List Row) → IsRunSent endpoints graph block most us rows []

pub record BatchLaws : Type 0 where
  pub cut : CutsAreBatches
  pub several : CutsOfSeveral
  pub step : StepOfBatches
  pub any_order : StepInAnyOrder
  pub run_in_any_order : RunInAnyOrder
  pub more : MoreMayBe
  pub nothing : NothingOfARun
