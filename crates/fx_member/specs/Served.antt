-- What a member answers to a request over its graph (SPARQL 1.1 Protocol, 2.1.4 to 2.1.7).
use Rattle.std.specs.Prelude.{◌≡◌, ℕ, List, [], ◌∷◌, ◌++◌, codes, Some, Ok, Err}
use Rattle.std.specs.Fmt.{decimal}
use Rattle.fx_terms.specs.declared.triples.Triple.{Triple}
use Rattle.fx_algebra.specs.Answers.{answer_alone}
use Rattle.fx_algebra.specs.Occurrences.{Occurrence, services}
use Rattle.fx_algebra.specs.declared.queries.Query.{Query}
use Rattle.fx_http.specs.Requests.{Asks, status_of, request_error_name}
use Rattle.fx_http.specs.WrittenReplies.{reply_of}
use Rattle.fx_http.specs.declared.read_requests.RequestError.{RequestError}
use Rattle.fx_results.specs.Documents.{document}
use Rattle.fx_grammar.specs.Accepted.{Accepted}
use Rattle.fx_grammar.specs.Refused.{IsRefused, kind_name}
use Rattle.fx_grammar.specs.declared.refusals.SyntaxKind.{SyntaxKind}

-- a status, and the body of the reply
pub record Told : Type 0 where
  pub status : ℕ
  pub body : List ℕ

abbrev pub told : ℕ → List ℕ → Told
told status body = record { status = status; body = body }

-- a text on a line of its own
abbrev pub own_line : List ℕ → List ℕ
own_line text = text ++ 10 ∷ []

-- a query without SERVICE is answered over the graph; any other would have to ask another endpoint
abbrev pub by_services : List Occurrence → Query → List Triple → Told
by_services [] q graph = told 200 (document (answer_alone q graph))
by_services (o ∷ os) q graph = told 400 (own_line (codes "ServiceHere"))

abbrev pub query_told : Query → List Triple → Told
query_told q graph = by_services (services q) q graph

-- why a text is no query, and where
abbrev pub syntax_told : SyntaxKind → ℕ → Told
syntax_told kind place = told 400 (own_line (kind_name kind ++ codes " at " ++ decimal place))

-- ---- by whoever tells something of a query

-- a text is answered by what is told of the query that it is, or refused
pub data IsTextToldBy (Tells : Query → Told → Type 0) (text : List ℕ) (t : Told) : Type 0 where
  accepted : (q : Query) → Accepted text q → Tells q t → IsTextToldBy Tells text t
  refused : (kind : SyntaxKind) (place : ℕ) → IsRefused text kind place → t ≡ syntax_told kind place → IsTextToldBy Tells text t

-- a request is answered by the text that it asks, or refused
pub data IsToldBy (Tells : Query → Told → Type 0) (input : List ℕ) (t : Told) : Type 0 where
  asked : (text : List ℕ) → Asks input (Ok text) → IsTextToldBy Tells text t → IsToldBy Tells input t
  refused : (error : RequestError) (status : ℕ) → Asks input (Err error) → status_of error ≡ Some status → t ≡ told status (own_line (request_error_name error)) → IsToldBy Tells input t

-- the whole reply to an input, with its status
pub record IsServedBy (Tells : Query → Told → Type 0) (input : List ℕ) (status : ℕ) (reply : List ℕ) : Type 0 where
  pub body : List ℕ
  pub told : IsToldBy Tells input (told status body)
  pub laid_out : reply ≡ reply_of status body

-- ---- by a member over its graph

abbrev pub TellsOver : List Triple → Query → Told → Type 0
TellsOver graph q t = t ≡ query_told q graph

-- a text is answered as the query that it is, or refused
abbrev pub IsTextTold : List Triple → List ℕ → Told → Type 0
IsTextTold graph text t = IsTextToldBy (TellsOver graph) text t

-- a request is answered by the text that it asks, or refused
abbrev pub IsTold : List Triple → List ℕ → Told → Type 0
IsTold graph input t = IsToldBy (TellsOver graph) input t

-- the whole reply to an input, with its status
abbrev pub IsServed : List Triple → List ℕ → ℕ → List ℕ → Type 0
IsServed graph input status reply = IsServedBy (TellsOver graph) input status reply

-- ---- bytes

-- a status and a reply's bytes are those of what is told
pub record IsLaidOut (t : Told) (status : ℕ) (reply : List ℕ) : Type 0 where
  pub is_status : status ≡ t.status
  pub is_reply : reply ≡ reply_of t.status t.body
