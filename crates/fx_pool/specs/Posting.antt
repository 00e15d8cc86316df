-- What comes of a text that is to be sent to an endpoint.
use Rattle.std.specs.Prelude.{◌≡◌, ◌<◌, ◌≤◌, ℕ, List, [], ◌∷◌, length, All, Option, IfSome, Result, Ok, Err}
use Rattle.fx_terms.specs.Graphs.{IsGraph}
use Rattle.fx_terms.specs.declared.allocation.Memory.{Memory}
use Rattle.fx_terms.specs.declared.triples.Triple.{Triple}
use Rattle.fx_outside.specs.Endpoints.{EndpointParts}
use Rattle.fx_http.specs.Requests.{IsRequest, request_of}
use Rattle.fx_wire.specs.Exchanges.{Exchange, exchanged}
use Rattle.fx_wire.specs.Honest.{IsHonest}
use Rattle.fx_pool.specs.declared.posting.Posted.{Posted}
use Rattle.fx_pool.specs.declared.posting.Posted.TheVariants as posted

-- the request posts the text
pub record IsSent (e : EndpointParts) (text request : List ℕ) : Type 0 where
  pub short : length text ≤ 67108864
  pub exact : request ≡ request_of e text
  pub whole : IsRequest request text

-- sent, where it may be, in a request of its own
abbrev pub IsPosted : EndpointParts → List ℕ → Posted → Type 0
IsPosted e text (posted.Replied request reply) = IsSent e text request
IsPosted e text posted.Failed = length text ≤ 67108864
IsPosted e text (posted.TooLong size) = (size ≡ length text) × (67108864 < size)

-- the exchange that was answered, where one was
abbrev pub exchanges_of : EndpointParts → Posted → List Exchange
exchanges_of e (posted.Replied request reply) = exchanged e request reply ∷ []
exchanges_of e posted.Failed = []
exchanges_of e (posted.TooLong size) = []

abbrev pub exchanges_in : EndpointParts → Result Posted Memory → List Exchange
exchanges_in e (Ok p) = exchanges_of e p
exchanges_in e (Err why) = []

abbrev pub failures_of : Posted → ℕ
failures_of posted.Failed = 1
failures_of (posted.Replied request reply) = 0
failures_of (posted.TooLong size) = 0

abbrev pub failures_in : Result Posted Memory → ℕ
failures_in (Ok p) = failures_of p
failures_in (Err why) = 0

-- where the graph of the address is told, the reply is honest, if it is whole
abbrev pub IsHonestAt : (List ℕ → Option (List Triple)) → Exchange → Type 0
IsHonestAt graph x = IfSome (graph x.at.iri) (λ told. IsGraph told × (length x.reply ≤ 67108864 → IsHonest told x.request x.reply))

abbrev pub AreHonest : (List ℕ → Option (List Triple)) → List Exchange → Type 0
AreHonest graph xs = All (IsHonestAt graph) xs
