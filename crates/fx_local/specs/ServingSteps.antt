-- What the steps of `fedx member` give. `IsMemberReported` says what the whole gives.
use Rattle.std.specs.Prelude.{◌≡◌, ℕ, List, [], ◌∷◌, ◌++◌, Result, Ok, Err, IsTrue}
use Rattle.fx_terms.specs.declared.triples.Triple.{Triple}
use Rattle.fx_outside.specs.Doors.{DoorSeen}
use Rattle.fx_outside.specs.declared.doors.DoorError.{DoorError}
use Rattle.fx_outside.specs.declared.doors.DoorError.TheVariants as door
use Rattle.fx_local.specs.Lines.{cannot_serve, no_memory}
use Rattle.fx_local.specs.Serving.{Visit, IsVisit, IsOneAtMost}
use Rattle.fx_local.specs.declared.serving.Ending.{Ending}
use Rattle.fx_local.specs.declared.statuses.Status.{Status}
use Rattle.fx_local.specs.declared.statuses.Status.TheVariants as status

-- the first input was served
pub record IsServedNext (graph : List Triple) (before after : DoorSeen) (ending : Ending) : Type 0 where
  pub visit : Visit
  pub is : IsVisit graph visit
  pub ended : visit.ending ≡ ending
  pub went_out : after.outputs ≡ before.outputs ++ visit.output ∷ []
  pub came_in : before.inputs ≡ visit.input ∷ after.inputs

-- no input was served, and at most one was taken
pub record IsLost (before after : DoorSeen) : Type 0 where
  pub unanswered : List (List ℕ)
  pub few : IsOneAtMost unanswered
  pub went_out : after.outputs ≡ before.outputs
  pub came_in : before.inputs ≡ unanswered ++ after.inputs

-- the next connection was served, where the door tells, or none was
abbrev pub GivesEnding : List Triple → DoorSeen → DoorSeen → Result Ending DoorError → Type 0
GivesEnding graph before after (Ok ending) = IsTrue before.tells → IsServedNext graph before after ending
GivesEnding graph before after (Err e) = IsTrue before.tells → IsLost before after

-- how serving ends where the door does nothing, and the line of it
abbrev pub end_status : DoorError → Status
end_status door.Failed = status.DoorFault
end_status door.Memory = status.NoMemory

abbrev pub end_line : DoorError → List ℕ
end_line door.Failed = cannot_serve
end_line door.Memory = no_memory
