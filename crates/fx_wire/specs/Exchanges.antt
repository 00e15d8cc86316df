-- What happened on a wire.
use Rattle.std.specs.Prelude.{◌≡◌, ◌≤◌, ◌++◌, ℕ, Bool, List, Option, IsTrue}
use Rattle.fx_terms.specs.declared.triples.Triple.{Triple}
use Rattle.fx_outside.specs.Endpoints.{EndpointParts}

-- an exchange that was answered: the endpoint, the request, and the reply
pub record Exchange : Type 0 where
  pub at : EndpointParts
  pub request : List ℕ
  pub reply : List ℕ

abbrev pub exchanged : EndpointParts → List ℕ → List ℕ → Exchange
exchanged at request reply = record { at = at; request = request; reply = reply }

-- ---- what is known of a wire at a moment

pub record Seen : Type 0 where
  pub tells_log : Bool
  pub log : List Exchange
  pub graph : List ℕ → Option (List Triple)
  pub faults : List ℕ → ℕ

-- what exchanges leave of a wire: its log grew, where it is told, no graph changed, and no count fell
pub record IsAfter (before after : Seen) : Type 0 where
  pub logged : IsTrue before.tells_log → (part : List Exchange) × (after.log ≡ before.log ++ part)
  pub same : (address : List ℕ) → after.graph address ≡ before.graph address
  pub kept : (address : List ℕ) → before.faults address ≤ after.faults address
