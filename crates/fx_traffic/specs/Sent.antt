-- What was sent, as a bag: in which order several wires sent it stands in no log.
use Rattle.std.specs.Prelude.{ℕ, List, [], ◌++◌, map, IsPermutation}
use Rattle.fx_outside.specs.Endpoints.{EndpointParts}
use Rattle.fx_wire.specs.Exchanges.{Exchange}

-- a request to an endpoint
pub record Sent : Type 0 where
  pub at : EndpointParts
  pub request : List ℕ

abbrev pub sent_of : Exchange → Sent
sent_of x = record { at = x.at; request = x.request }

-- Of what is wanted, these exchanges sent all but what is left, each as often as it is wanted, and nothing else.
abbrev pub Sends : List Sent → List Sent → List Exchange → Type 0
Sends wanted left exchanges = IsPermutation (map sent_of exchanges ++ left) wanted

-- ---- laws

-- where nothing was sent all is left
abbrev pub NothingSent : Type 0
NothingSent = (wanted : List Sent) → Sends wanted wanted []

-- what two calls send one after the other, or two halves of the wires beside each other
abbrev pub SentTogether : Type 0
SentTogether = (wanted left also_wanted also_left : List Sent) (xs ys : List Exchange) → Sends wanted left xs → Sends also_wanted also_left ys → Sends (wanted ++ also_wanted) (left ++ also_left) (xs ++ ys)

-- the order is free
abbrev pub SentInAnyOrder : Type 0
SentInAnyOrder = (wanted left : List Sent) (xs ys : List Exchange) → IsPermutation xs ys → Sends wanted left xs → Sends wanted left ys

-- what some of the exchanges didn't send is left
abbrev pub SentInPart : Type 0
SentInPart = (wanted left : List Sent) (xs ys : List Exchange) → Sends wanted left (xs ++ ys) → Sends wanted (map sent_of ys ++ left) xs

pub record SentLaws : Type 0 where
  pub nothing : NothingSent
  pub together : SentTogether
  pub any_order : SentInAnyOrder
  pub in_part : SentInPart
