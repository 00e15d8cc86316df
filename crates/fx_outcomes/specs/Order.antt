-- The order in which a query is asked for, and refused, in a round: in text order, its runs and its occurrences of SERVICE.
use Rattle.std.specs.Prelude.{◌≡◌, ◌+◌, ℕ, Bool, List, [], IsTrue, All}
use Rattle.fx_traffic.specs.Gains.{faults_at}
use Rattle.fx_traffic.specs.Sent.{Sent}
use Rattle.fx_wire.specs.Exchanges.{Exchange, Seen}
use Rattle.fx_outcomes.specs.Calls.{Call, failures_at}

-- What was asked for beside the occurrences of SERVICE was given, so no run was refused: no text is left, each reply was read, without a fault, and by wires that count each
-- address alone no faults were counted but those of the occurrences.
pub record AreGiven (alone : Bool) (before after : List Seen) (calls : List Call) (IsRead : Exchange → Type 0) (left : List Sent) (others : List Exchange) : Type 0 where
  pub whole : left ≡ []
  pub read : All IsRead others
  pub exact : IsTrue alone → (address : List ℕ) → faults_at after address ≡ faults_at before address + failures_at address calls
