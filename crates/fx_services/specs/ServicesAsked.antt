-- What is asked for an occurrence of SERVICE, and what its reply says.
use Rattle.std.specs.Prelude.{◌≡◌, ◌≢◌, ◌<◌, ◌≤◌, ℕ, List, [], ◌∷◌, All, Some, Result, Ok, Err, length, slice_get, IsPermutation}
use Rattle.fx_terms.specs.declared.triples.Triple.{Triple}
use Rattle.fx_outside.specs.Endpoints.{EndpointParts}
use Rattle.fx_algebra.specs.Groups.{group_rows, meaning}
use Rattle.fx_algebra.specs.Occurrences.{services}
use Rattle.fx_algebra.specs.Printed.{printed_query}
use Rattle.fx_algebra.specs.Scopes.{scope}
use Rattle.fx_algebra.specs.Solutions.{Bindings}
use Rattle.fx_algebra.specs.declared.queries.Group.{Group}
use Rattle.fx_grammar.specs.Accepted.{Accepted}
use Rattle.fx_http.specs.Requests.{request_of}
use Rattle.fx_http.specs.declared.replies.ReplyError.TheVariants.{TooLong}
use Rattle.fx_traffic.specs.Gains.{Tell, faults_at}
use Rattle.fx_traffic.specs.Traffic.{service_query}
use Rattle.fx_wire.specs.Exchanges.{Exchange, Seen, exchanged}
use Rattle.fx_pool.specs.Reading.{a_service, HasFault, HasTable}
use Rattle.fx_pool.specs.declared.faults.ReplyFault.TheVariants.{Http}
use Rattle.fx_pool.specs.declared.jobs.BadReply.{BadReply}
use Rattle.fx_pool.specs.declared.jobs.Job.{Job}
use Rattle.fx_pool.specs.declared.jobs.JobKind.TheVariants as kind
use Rattle.fx_pool.specs.declared.jobs.JobReply.{JobReply}
use Rattle.fx_pool.specs.declared.jobs.JobReply.TheVariants as reply
use Rattle.fx_pool.specs.declared.jobs.Work.TheVariants as work
use Rattle.fx_services.specs.declared.services.ServiceError.{ServiceError}
use Rattle.fx_services.specs.declared.services.ServiceError.TheVariants as error

-- ---- what is asked

-- the text that asks for a group
abbrev pub service_text : Group → List ℕ
service_text g = printed_query (service_query g)

-- the group of a SERVICE of an accepted query: its text is accepted as its query, and no SERVICE is in it
pub record IsServable (g : Group) : Type 0 where
  pub accepted : Accepted (service_text g) (service_query g)
  pub alone : services (service_query g) ≡ []

-- the job that asks an endpoint for a group
abbrev pub job_of : ℕ → Group → Job
job_of at g = record { at = at; work = work.Service (service_text g) (scope g) }

-- ---- what its reply says

-- a SERVICE has no truth value, and isn't a batch
abbrev pub IsForService : JobReply → Type 0
IsForService (reply.Truth truth) = ⊥
IsForService (reply.Found founds) = ⊥
IsForService r = Unit {0}

abbrev pub IsOneForService : List JobReply → Type 0
IsOneForService [] = ⊥
IsOneForService (r ∷ []) = IsForService r
IsOneForService (r ∷ s ∷ rs) = ⊥

-- the rows of a table, or why the endpoint of this number gave none
abbrev pub IsRowsOf : ℕ → JobReply → Result (List Bindings) ServiceError → Type 0
IsRowsOf at (reply.Table rows) result = result ≡ Ok rows
IsRowsOf at reply.Failed result = result ≡ Err (error.Failed at)
IsRowsOf at (reply.Bad bad) result = result ≡ Err (error.Bad at bad)
IsRowsOf at (reply.TooLong size) result = result ≡ Err (error.TooLong at size)
IsRowsOf at (reply.Truth truth) result = ⊥
IsRowsOf at (reply.Found founds) result = ⊥

-- ---- rows

-- the one exchange has the text to the endpoint, and a reply that reads as these rows, which bind the group's scope alone
pub record IsToldBy (e : EndpointParts) (g : Group) (xs : List Exchange) (rows : List Bindings) : Type 0 where
  pub request : List ℕ
  pub bytes : List ℕ
  pub posts : request ≡ request_of e (service_text g)
  pub short : length (service_text g) ≤ 67108864
  pub alone : xs ≡ exchanged e request bytes ∷ []
  pub told : HasTable bytes (scope g) rows

-- over a graph they are the group's, whatever graphs IRIs have and whatever is down, in some order
abbrev pub AreRowsOver : List Triple → Group → List Bindings → Type 0
AreRowsOver graph g rows = (graphs : List ℕ → List Triple) (down : List ℕ) (number : ℕ) → IsPermutation rows (group_rows (meaning graphs down g) graph number)

-- ---- causes

-- the endpoint of this number has the address
abbrev pub AtAddress : List EndpointParts → List ℕ → ℕ → (EndpointParts → Type 0) → Type 0
AtAddress endpoints iri at P = (e : EndpointParts) × (slice_get endpoints at ≡ Some e) × (e.iri ≡ iri) × P e

-- the reply of the one exchange has this first fault; where the graph is told, it is that the reply is too long
pub record IsBadService (tells : List Triple → Type 0) (e : EndpointParts) (g : Group) (xs : List Exchange) (bad : BadReply) : Type 0 where
  pub of_kind : bad.kind ≡ kind.Service
  pub posts : bad.request ≡ request_of e (service_text g)
  pub short : length (service_text g) ≤ 67108864
  pub alone : xs ≡ exchanged e bad.request bad.reply ∷ []
  pub fault : HasFault (a_service (scope g)) bad.reply bad.why
  pub long : (graph : List Triple) → tells graph → (bad.why ≡ Http TooLong) × (67108864 < length bad.reply)

-- Why there are no rows: but for a bad reply nothing was exchanged then. The text is too long exactly in the case that says so.
abbrev pub HasServiceCause : List Seen → List Seen → List EndpointParts → List ℕ → Group → List Exchange → ServiceError → Type 0
HasServiceCause before after endpoints iri g xs error.Unknown = All (λ e. e.iri ≢ iri) endpoints × (xs ≡ [])
HasServiceCause before after endpoints iri g xs (error.Failed at) = AtAddress endpoints iri at (λ e. (xs ≡ []) × (length (service_text g) ≤ 67108864) × (faults_at before iri < faults_at after iri))
HasServiceCause before after endpoints iri g xs (error.Bad at bad) = AtAddress endpoints iri at (λ e. IsBadService (Tell before iri) e g xs bad)
HasServiceCause before after endpoints iri g xs (error.TooLong at size) = AtAddress endpoints iri at (λ e. (xs ≡ []) × (size ≡ length (service_text g)) × (67108864 < size))
