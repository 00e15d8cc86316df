-- What comes of jobs: what each of their replies tells, what was exchanged, and which faults were counted.
use Rattle.std.specs.Prelude.{◌≡◌, ℕ, ◌+◌, ◌++◌, Bool, false, List, [], ◌∷◌, Option, Some, None, bytes_eq, cond, slice_get}
use Rattle.fx_outside.specs.Endpoints.{EndpointParts}
use Rattle.fx_bound.specs.Parts as batch
use Rattle.fx_values.specs.Parts as values
use Rattle.fx_http.specs.Requests.{request_of}
use Rattle.fx_traffic.specs.Sent.{Sent}
use Rattle.fx_wire.specs.Exchanges.{Exchange}
use Rattle.fx_algebra.specs.declared.answers.Answer.TheVariants as answer
use Rattle.fx_pool.specs.Posting.{IsPosted, exchanges_of}
use Rattle.fx_pool.specs.Reading.{Carried, an_ask, a_batch, a_values, a_service, HasFault, HasFound, HasResults, HasTable}
use Rattle.fx_pool.specs.declared.jobs.BadReply.{BadReply}
use Rattle.fx_pool.specs.declared.jobs.Job.{Job}
use Rattle.fx_pool.specs.declared.jobs.JobKind.{JobKind}
use Rattle.fx_pool.specs.declared.jobs.JobKind.TheVariants as kind
use Rattle.fx_pool.specs.declared.jobs.JobReply.{JobReply}
use Rattle.fx_pool.specs.declared.jobs.JobReply.TheVariants as reply
use Rattle.fx_pool.specs.declared.jobs.Work.{Work}
use Rattle.fx_pool.specs.declared.jobs.Work.TheVariants as work
use Rattle.fx_pool.specs.declared.posting.Posted.{Posted}
use Rattle.fx_pool.specs.declared.posting.Posted.TheVariants as posted

-- ---- what is asked

-- a batch without a branch, or without a row in its block, has none, and isn't one to ask for
abbrev pub or_nothing : Option (List ℕ) → List ℕ
or_nothing (Some text) = text
or_nothing None = []

abbrev pub text_of : Work → List ℕ
text_of (work.Ask text) = text
text_of (work.Batch b) = or_nothing (batch.text_of b)
text_of (work.Values b) = or_nothing (values.text_of b)
text_of (work.Service text columns) = text

-- what the request carries
abbrev pub carried_by : Work → Carried
carried_by (work.Ask text) = an_ask
carried_by (work.Batch b) = a_batch b
carried_by (work.Values b) = a_values b
carried_by (work.Service text columns) = a_service columns

-- and by that its kind
abbrev pub kind_by : Carried → JobKind
kind_by an_ask = kind.Ask
kind_by (a_batch b) = kind.Batch
kind_by (a_values b) = kind.Values
kind_by (a_service columns) = kind.Service

abbrev pub kind_of : Work → JobKind
kind_of w = kind_by (carried_by w)

-- ---- what a reply tells

-- the reply answers this request, is of the job's kind, and has this first fault
pub record IsBadReply (w : Work) (request bytes : List ℕ) (bad : BadReply) : Type 0 where
  pub of_kind : bad.kind ≡ kind_of w
  pub requested : bad.request ≡ request
  pub replied : bad.reply ≡ bytes
  pub fault : HasFault (carried_by w) bytes bad.why

abbrev pub Tells : Work → List ℕ → List ℕ → JobReply → Type 0
Tells (work.Ask text) request bytes (reply.Truth truth) = HasResults bytes (answer.Truth truth)
Tells (work.Batch b) request bytes (reply.Found founds) = HasFound (a_batch b) bytes founds
Tells (work.Values b) request bytes (reply.Found founds) = HasFound (a_values b) bytes founds
Tells (work.Service text columns) request bytes (reply.Table rows) = HasTable bytes columns rows
Tells w request bytes (reply.Bad bad) = IsBadReply w request bytes bad
Tells w request bytes r = ⊥

abbrev pub IsReplyTo : Work → Posted → JobReply → Type 0
IsReplyTo w (posted.Replied request bytes) r = Tells w request bytes r
IsReplyTo w posted.Failed r = r ≡ reply.Failed
IsReplyTo w (posted.TooLong size) r = r ≡ reply.TooLong size

-- ---- jobs

-- a job was done by these exchanges: one, where it was answered, and else none
pub record IsDone (endpoints : List EndpointParts) (j : Job) (r : JobReply) (xs : List Exchange) : Type 0 where
  pub endpoint : EndpointParts
  pub found : slice_get endpoints j.at ≡ Some endpoint
  pub posted : Posted
  pub sent : IsPosted endpoint (text_of j.work) posted
  pub told : IsReplyTo j.work posted r
  pub exchanged : xs ≡ exchanges_of endpoint posted

-- each job has one reply, in their order
abbrev pub AreDone : List EndpointParts → List Job → List JobReply → List Exchange → Type 0
AreDone endpoints [] [] xs = xs ≡ []
AreDone endpoints [] (r ∷ rs) xs = ⊥
AreDone endpoints (j ∷ js) [] xs = ⊥
AreDone endpoints (j ∷ js) (r ∷ rs) xs = (own : List Exchange) × (rest : List Exchange) × (xs ≡ own ++ rest) × IsDone endpoints j r own × AreDone endpoints js rs rest

-- the requests of jobs, each to its endpoint
pub record IsWanted (endpoints : List EndpointParts) (j : Job) (s : Sent) : Type 0 where
  pub found : slice_get endpoints j.at ≡ Some s.at
  pub posts : s.request ≡ request_of s.at (text_of j.work)

abbrev pub AreWanted : List EndpointParts → List Job → List Sent → Type 0
AreWanted endpoints [] wanted = wanted ≡ []
AreWanted endpoints (j ∷ js) [] = ⊥
AreWanted endpoints (j ∷ js) (s ∷ wanted) = IsWanted endpoints j s × AreWanted endpoints js wanted

-- ---- faults

abbrev pub is_failure : JobReply → ℕ
is_failure reply.Failed = 1
is_failure (reply.Truth truth) = 0
is_failure (reply.Found founds) = 0
is_failure (reply.Table rows) = 0
is_failure (reply.Bad bad) = 0
is_failure (reply.TooLong size) = 0

-- the endpoint has this address
abbrev pub is_at : List ℕ → Option EndpointParts → Bool
is_at address None = false
is_at address (Some e) = bytes_eq e.iri address

-- how many of the replies are failures at an address
abbrev pub failures_at : List EndpointParts → List ℕ → List Job → List JobReply → ℕ
failures_at endpoints address [] rs = 0
failures_at endpoints address (j ∷ js) [] = 0
failures_at endpoints address (j ∷ js) (r ∷ rs) = cond (is_at address (slice_get endpoints j.at)) (is_failure r) 0 + failures_at endpoints address js rs
