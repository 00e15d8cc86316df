-- How the occurrences of SERVICE of a query are invoked, side by side.
use Rattle.std.specs.Prelude.{◌≡◌, ◌≢◌, ◌≤◌, ◌+◌, ℕ, Bool, false, List, [], ◌∷◌, ◌++◌, map, All, IsPermutation, IsTrue, Option, None, Some, Result, Ok, Err, slice_get}
use Rattle.std.specs.List.{flat_map}
use Rattle.fx_terms.specs.declared.allocation.Memory.{Memory}
use Rattle.fx_outside.specs.Endpoints.{EndpointParts}
use Rattle.fx_algebra.specs.Groups.{Meaning, Part, pattern, condition, operator}
use Rattle.fx_algebra.specs.Solutions.{Bindings}
use Rattle.fx_algebra.specs.declared.queries.Element.{Element}
use Rattle.fx_algebra.specs.declared.queries.Group.{Group}
use Rattle.fx_traffic.specs.Gains.{AreAfter, HaveGained, WiresSeen, faults_at}
use Rattle.fx_wire.specs.Exchanges.{Exchange, Seen}
use Rattle.fx_services.specs.Beside.{Occurrence}
use Rattle.fx_services.specs.Noted.{cause_of}
use Rattle.fx_services.specs.declared.beside.Settled.{Settled}
use Rattle.fx_services.specs.declared.noted.Down.{Down}
use Rattle.fx_services.specs.declared.services.ServiceError.{ServiceError}
use Rattle.fx_services.specs.declared.services.ServiceError.TheVariants as error
use Rattle.fx_outcomes.specs.Calls.{AreAllOrNone, AreCalls, Call, IsKnown, IsPassed, down_in, failed, failures_at, occurrence_in, rows_of}
use Rattle.fx_walks.specs.SectionSteps.{group_of, part_of}

-- ---- the occurrences in a group

abbrev pub in_part : Part → List Occurrence
in_part (pattern p) = []
in_part (condition e) = []
in_part (operator o) = flat_map occurrence_in (o.cut.stations 0 [])

abbrev pub in_meaning : Meaning → List Occurrence
in_meaning m = flat_map occurrence_in (m.cut.stations 0 [])

abbrev pub in_element : Element → List Occurrence
in_element e = in_part (part_of e)

abbrev pub in_group : Group → List Occurrence
in_group g = in_meaning (group_of g)

abbrev pub one_of : Bool → List ℕ → Group → List Occurrence
one_of silent iri g = record { silent = silent; iri = iri; group = g } ∷ []

-- ---- what was done

-- Occurrences were invoked over wires: what was exchanged, one wire's part behind the other's, and the same with each occurrence's own exchanges behind those
-- of the one before; and the faults that were counted.
pub record Calling (tells alone : Bool) (before after : List Seen) (endpoints : List EndpointParts) (calls : List Call) : Type 0 where
  pub exchanges : List Exchange
  pub gained : IsTrue tells → HaveGained before after exchanges
  pub after_all : AreAfter before after
  pub counted : (address : List ℕ) → faults_at before address + failures_at address calls ≤ faults_at after address
  pub in_turn : List Exchange
  pub same : IsPermutation in_turn exchanges
  pub are_calls : AreCalls before endpoints calls in_turn

-- all of them were, and each passed: these are their rows, and what is down of them
pub record AreInvoked (tells alone : Bool) (before after : List Seen) (endpoints : List EndpointParts) (all : List Occurrence) (down : List Down) (rows : List (List Bindings)) : Type 0 where
  pub calls : List Call
  pub are : map (λ c. c.of) calls ≡ all
  pub passed : All IsPassed calls
  pub down_are : down ≡ down_in calls
  pub rows_are : rows ≡ map rows_of calls
  pub calling : Calling tells alone before after endpoints calls
  pub exact : IsTrue alone → (address : List ℕ) → faults_at after address ≡ faults_at before address + failures_at address calls

-- the endpoint of the number in the reason has the address, or no endpoint has it
abbrev pub IsAt : List EndpointParts → List ℕ → ServiceError → Type 0
IsAt endpoints iri (error.Failed at) = (e : EndpointParts) × (slice_get endpoints at ≡ Some e) × (e.iri ≡ iri)
IsAt endpoints iri (error.Bad at bad) = (e : EndpointParts) × (slice_get endpoints at ≡ Some e) × (e.iri ≡ iri)
IsAt endpoints iri (error.TooLong at size) = (e : EndpointParts) × (slice_get endpoints at ≡ Some e) × (e.iri ≡ iri)
IsAt endpoints iri error.Unknown = All (λ (e : EndpointParts). e.iri ≢ iri) endpoints

-- all of them were, and the first of them passed: these are the rows of those; the next, which isn't silent, has no rows for this reason
pub record IsStopped (tells alone : Bool) (before after : List Seen) (endpoints : List EndpointParts) (all : List Occurrence) (rows : List (List Bindings)) (why : ServiceError) : Type 0 where
  pub front : List Call
  pub refused : Call
  pub behind : List Call
  pub are : map (λ c. c.of) (front ++ refused ∷ behind) ≡ all
  pub passed : All IsPassed front
  pub rows_are : rows ≡ map rows_of front
  pub plain : refused.of.silent ≡ false
  pub came : refused.came ≡ failed (cause_of why)
  pub at : IsAt endpoints refused.of.iri why
  pub known : All IsKnown (front ++ refused ∷ behind)
  pub calling : Calling tells alone before after endpoints (front ++ refused ∷ behind)
  pub exact : IsTrue alone → (address : List ℕ) → faults_at after address ≡ faults_at before address + failures_at address (front ++ refused ∷ behind)

-- memory ran out while they were, or before
pub record AreLost (tells alone : Bool) (before after : List Seen) (endpoints : List EndpointParts) (all : List Occurrence) : Type 0 where
  pub calls : List Call
  pub called : AreAllOrNone calls all
  pub calling : Calling tells alone before after endpoints calls

-- none was refused, or this is why the first was
abbrev pub InvokedBy : Bool → Bool → List Seen → List Seen → List EndpointParts → List Occurrence → List Down → List (List Bindings) → Option ServiceError → Type 0
InvokedBy tells alone before after endpoints all down rows None = AreInvoked tells alone before after endpoints all down rows
InvokedBy tells alone before after endpoints all down rows (Some why) = IsStopped tells alone before after endpoints all rows why

abbrev pub Invoked : Bool → Bool → List Seen → List Seen → List EndpointParts → List Occurrence → Result Settled Memory → Type 0
Invoked tells alone before after endpoints all (Ok s) = InvokedBy tells alone before after endpoints all s.down.items s.rows.items s.refused
Invoked tells alone before after endpoints all (Err e) = AreLost tells alone before after endpoints all

abbrev pub InvokedOver : WiresSeen → List EndpointParts → List Occurrence → Result Settled Memory → Type 0
InvokedOver w endpoints all settled = Invoked w.tells w.alone w.before w.after endpoints all settled
