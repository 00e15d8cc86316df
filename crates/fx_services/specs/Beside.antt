-- Occurrences of SERVICE, invoked side by side: what each came to, in text order, and the first that is refused.
use Rattle.std.specs.Prelude.{◌≡◌, ◌≤◌, ◌+◌, ◌++◌, ◌⊎◌, ℕ, Bool, false, List, [], ◌∷◌, Option, None, Some, IfOk, IfErr, IfSome, IsTrue, All, Contains, IsPermutation, Result, Ok, Err, bytes_eq, cond}
use Rattle.std.specs.List.{flat_map}
use Rattle.std.specs.declared.alloc.Global.{Global}
use Rattle.std.specs.declared.vec.Vec.{Vec}
use Rattle.std.proofs.Common.{suc}
use Rattle.fx_terms.specs.declared.allocation.Memory.{Memory}
use Rattle.fx_terms.specs.declared.triples.Triple.{Triple}
use Rattle.fx_outside.specs.Endpoints.{EndpointParts}
use Rattle.fx_algebra.specs.Solutions.{Bindings}
use Rattle.fx_algebra.specs.declared.queries.Group.{Group}
use Rattle.fx_traffic.specs.Gains.{AreAfter, HaveGained, Tell, WiresSeen, faults_at}
use Rattle.fx_traffic.specs.Sent.{Sent, Sends}
use Rattle.fx_traffic.specs.Traffic.{IsServiceSent}
use Rattle.fx_wire.specs.Exchanges.{Exchange, Seen}
use Rattle.fx_sources.specs.Registries.{number_of}
use Rattle.fx_pool.specs.declared.jobs.Job.{Job}
use Rattle.fx_pool.specs.declared.jobs.JobReply.{JobReply}
use Rattle.fx_services.specs.Noted.{ComesTo}
use Rattle.fx_services.specs.ServicesAsked.{AreRowsOver, HasServiceCause, IsOneForService, IsRowsOf, IsServable, IsToldBy, job_of}
use Rattle.fx_services.specs.declared.beside.Settled.{Settled}
use Rattle.fx_services.specs.declared.noted.Down.{Down}
use Rattle.fx_services.specs.declared.services.ServiceError.{ServiceError}
use Rattle.fx_services.specs.declared.services.ServiceError.TheVariants as error

-- an occurrence: whether it is silent, its IRI and its group
pub record Occurrence : Type 0 where
  pub silent : Bool
  pub iri : List ℕ
  pub group : Group

-- what one came to: its rows, or why there are none
abbrev pub Came : Type 0
Came = Result (List Bindings) ServiceError

abbrev pub AreServable : List Occurrence → Type 0
AreServable os = All (λ o. IsServable o.group) os

-- ---- their jobs, in text order

-- an unknown one has none
abbrev pub job_if : Option ℕ → Group → List Job
job_if None g = []
job_if (Some at) g = job_of at g ∷ []

abbrev pub jobs_for : List EndpointParts → Occurrence → List Job
jobs_for endpoints o = job_if (number_of o.iri endpoints) o.group

abbrev pub jobs_of : List EndpointParts → List Occurrence → List Job
jobs_of endpoints os = flat_map (jobs_for endpoints) os

-- ---- their replies

abbrev pub IsReplyFor : Option ℕ → List JobReply → Type 0
IsReplyFor None rs = rs ≡ []
IsReplyFor (Some at) rs = IsOneForService rs

abbrev pub AreRepliesFor : List EndpointParts → List Occurrence → List JobReply → Type 0
AreRepliesFor endpoints [] rs = rs ≡ []
AreRepliesFor endpoints (o ∷ os) rs = (own : List JobReply) × (rest : List JobReply) × (rs ≡ own ++ rest) × IsReplyFor (number_of o.iri endpoints) own × AreRepliesFor endpoints os rest

abbrev pub IsToldOf : Option ℕ → List JobReply → Came → Type 0
IsToldOf None rs c = (rs ≡ []) × (c ≡ Err error.Unknown)
IsToldOf (Some at) [] c = ⊥
IsToldOf (Some at) (r ∷ []) c = IsRowsOf at r c
IsToldOf (Some at) (r ∷ s ∷ rs) c = ⊥

abbrev pub AreToldOf : List EndpointParts → List Occurrence → List JobReply → List Came → Type 0
AreToldOf endpoints [] rs [] = rs ≡ []
AreToldOf endpoints [] rs (c ∷ cs) = ⊥
AreToldOf endpoints (o ∷ os) rs [] = ⊥
AreToldOf endpoints (o ∷ os) rs (c ∷ cs) = (own : List JobReply) × (rest : List JobReply) × (rs ≡ own ++ rest) × IsToldOf (number_of o.iri endpoints) own c × AreToldOf endpoints os rest cs

-- ---- what each came to

-- its text was sent once at most, to the endpoint that has its address, and nothing else
pub record IsSentFor (endpoints : List EndpointParts) (o : Occurrence) (own : List Exchange) : Type 0 where
  pub wanted : List Sent
  pub left : List Sent
  pub sent : Sends wanted left own
  pub text : (wanted ≡ []) ⊎ IsServiceSent endpoints o.iri o.group wanted

-- By its own exchanges: its text at most, once; its rows, or why there are none.
pub record IsInvoked (before after : List Seen) (endpoints : List EndpointParts) (o : Occurrence) (own : List Exchange) (c : Came) : Type 0 where
  pub sent_so : IsSentFor endpoints o own
  pub told : IfOk c (λ rows. (e : EndpointParts) × Contains endpoints e × (e.iri ≡ o.iri) × IsToldBy e o.group own rows)
  pub rows : IfOk c (λ rows. (graph : List Triple) → Tell before o.iri graph → AreRowsOver graph o.group rows)
  pub cause : IfErr c (HasServiceCause before after endpoints o.iri o.group own)

abbrev pub AreInvoked : List Seen → List Seen → List EndpointParts → List Occurrence → List Came → List Exchange → Type 0
AreInvoked before after endpoints [] [] xs = xs ≡ []
AreInvoked before after endpoints [] (c ∷ cs) xs = ⊥
AreInvoked before after endpoints (o ∷ os) [] xs = ⊥
AreInvoked before after endpoints (o ∷ os) (c ∷ cs) xs = (own : List Exchange) × (rest : List Exchange) × (xs ≡ own ++ rest) × IsInvoked before after endpoints o own c × AreInvoked before after endpoints os cs rest

-- each has its own exchanges, whatever it came to
abbrev pub AreSentFor : List EndpointParts → List Occurrence → List Exchange → Type 0
AreSentFor endpoints [] xs = xs ≡ []
AreSentFor endpoints (o ∷ os) xs = (own : List Exchange) × (rest : List Exchange) × (xs ≡ own ++ rest) × IsSentFor endpoints o own × AreSentFor endpoints os rest

-- what they came to; where memory ran out it is known of none
abbrev pub HaveComeTo : List Seen → List Seen → List EndpointParts → List Occurrence → Option (List Came) → List Exchange → Type 0
HaveComeTo before after endpoints os None xs = AreSentFor endpoints os xs
HaveComeTo before after endpoints os (Some cs) xs = AreInvoked before after endpoints os cs xs

-- its exchange failed
abbrev pub failure_in : Came → ℕ
failure_in (Ok rows) = 0
failure_in (Err error.Unknown) = 0
failure_in (Err (error.Failed at)) = 1
failure_in (Err (error.Bad at bad)) = 0
failure_in (Err (error.TooLong at size)) = 0

abbrev pub failures_in : List ℕ → List Occurrence → List Came → ℕ
failures_in address [] cs = 0
failures_in address (o ∷ os) [] = 0
failures_in address (o ∷ os) (c ∷ cs) = cond {A = ℕ} (bytes_eq o.iri address) (failure_in c) 0 + failures_in address os cs

-- All these occurrences were invoked over wires, whatever became of others: what was exchanged, one wire's part behind the other's, and the same with each occurrence's
-- own exchanges, its text at most, behind those of the one before; and, where memory didn't run out, what each came to, in text order, and the faults that were counted.
pub record AllInvoked (tells alone : Bool) (before after : List Seen) (endpoints : List EndpointParts) (os : List Occurrence) (came : Option (List Came)) : Type 0 where
  pub exchanges : List Exchange
  pub gained : IsTrue tells → HaveGained before after exchanges
  pub after_all : AreAfter before after
  pub in_turn : List Exchange
  pub same : IsPermutation in_turn exchanges
  pub come_to : HaveComeTo before after endpoints os came in_turn
  pub counted : IfSome came (λ cs. (address : List ℕ) → faults_at before address + failures_in address os cs ≤ faults_at after address)
  pub exact : IsTrue alone → IfSome came (λ cs. (address : List ℕ) → faults_at after address ≡ faults_at before address + failures_in address os cs)

abbrev pub AllInvokedOver : WiresSeen → List EndpointParts → List Occurrence → Option (List Came) → Type 0
AllInvokedOver w endpoints os came = AllInvoked w.tells w.alone w.before w.after endpoints os came

abbrev pub came_in : Result (Vec Came Global) Memory → Option (List Came)
came_in (Ok cs) = Some cs.items
came_in (Err e) = None

-- ---- what the query goes on with

-- each passed, in text order: its rows stand under its place, and what is noted of it behind what was noted before
abbrev pub HavePassed : ℕ → List Occurrence → List Came → List Down → List Down → List (List Bindings) → Type 0
HavePassed number [] [] old new [] = new ≡ old
HavePassed number (o ∷ os) (c ∷ cs) old new (rows ∷ more) = (mid : List Down) × ComesTo number o.silent o.iri old mid c (Ok rows) × HavePassed (suc number) os cs mid new more
HavePassed number os cs old new rows = ⊥

-- this is the refusal of the first that doesn't pass: those before it did, and it isn't silent and has no rows for this reason
abbrev pub IsFirstRefusal : ℕ → List Occurrence → List Came → List Down → List Down → List (List Bindings) → ServiceError → Type 0
IsFirstRefusal number (o ∷ os) (c ∷ cs) old new [] e = (o.silent ≡ false) × (c ≡ Err e) × (new ≡ old)
IsFirstRefusal number (o ∷ os) (c ∷ cs) old new (rows ∷ more) e = (mid : List Down) × ComesTo number o.silent o.iri old mid c (Ok rows) × IsFirstRefusal (suc number) os cs mid new more e
IsFirstRefusal number os cs old new rows e = ⊥

-- none was refused, or one was
abbrev pub AreSettledBy : List Occurrence → List Came → List Down → List (List Bindings) → Option ServiceError → Type 0
AreSettledBy os cs down rows None = HavePassed 0 os cs [] down rows
AreSettledBy os cs down rows (Some e) = IsFirstRefusal 0 os cs [] down rows e

abbrev pub AreSettled : List Occurrence → List Came → Settled → Type 0
AreSettled os cs s = AreSettledBy os cs s.down.items s.rows.items s.refused
