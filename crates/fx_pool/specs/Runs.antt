-- What doing jobs leaves of a wire, and of several.
use Rattle.std.specs.Prelude.{◌≡◌, ◌≤◌, ◌+◌, ◌++◌, ℕ, Bool, List, [], ◌∷◌, Option, Some, None, IfSome, IsPermutation, IsTrue, All, Result, Ok, Err, cond, slice_get, length}
use Rattle.std.specs.declared.alloc.Global.{Global}
use Rattle.std.specs.declared.vec.Vec.{Vec}
use Rattle.fx_terms.specs.Graphs.{IsGraph}
use Rattle.fx_terms.specs.declared.allocation.Memory.{Memory}
use Rattle.fx_terms.specs.declared.triples.Triple.{Triple}
use Rattle.fx_outside.specs.Endpoints.{EndpointParts}
use Rattle.fx_traffic.specs.Gains.{AreAfter, HaveGained, Tell, WiresSeen, faults_at}
use Rattle.fx_traffic.specs.Sent.{Sent, Sends}
use Rattle.fx_wire.specs.Exchanges.{Exchange, Seen}
use Rattle.fx_wire.specs.Honest.{IsHonest}
use Rattle.fx_pool.specs.Jobs.{AreDone, AreWanted, failures_at, is_at}
use Rattle.fx_pool.specs.Posting.{AreHonest}
use Rattle.fx_pool.specs.declared.jobs.Job.{Job}
use Rattle.fx_pool.specs.declared.jobs.JobReply.{JobReply}

-- ---- what was sent

-- requests of these jobs alone, none oftener than the jobs have it
pub record AreOfJobs (endpoints : List EndpointParts) (js : List Job) (xs : List Exchange) : Type 0 where
  pub wanted : List Sent
  pub of_jobs : AreWanted endpoints js wanted
  pub left : List Sent
  pub sent : Sends wanted left xs

-- how many of the jobs are for an address
abbrev pub jobs_at : List EndpointParts → List ℕ → List Job → ℕ
jobs_at endpoints address [] = 0
jobs_at endpoints address (j ∷ js) = cond (is_at address (slice_get endpoints j.at)) 1 0 + jobs_at endpoints address js

-- ---- one wire

-- One wire did jobs, with these replies where there are any, and counted a fault for each failure among them, if it counts each address
-- alone no other, and never more than one for a job.
pub record WireDid (alone : Bool) (before after : Seen) (endpoints : List EndpointParts) (js : List Job) (replies : Option (List JobReply)) : Type 0 where
  pub exchanges : List Exchange
  pub logged : IsTrue before.tells_log → after.log ≡ before.log ++ exchanges
  pub honest : AreHonest before.graph exchanges
  pub same : (address : List ℕ) → after.graph address ≡ before.graph address
  pub tells : after.tells_log ≡ before.tells_log
  pub of_jobs : AreOfJobs endpoints js exchanges
  pub done : IfSome replies (λ rs. AreDone endpoints js rs exchanges)
  pub kept : (address : List ℕ) → before.faults address ≤ after.faults address
  pub counted : IfSome replies (λ rs. (address : List ℕ) → before.faults address + failures_at endpoints address js rs ≤ after.faults address)
  pub few : IsTrue alone → (address : List ℕ) → after.faults address ≤ before.faults address + jobs_at endpoints address js
  pub exact : IsTrue alone → IfSome replies (λ rs. (address : List ℕ) → after.faults address ≡ before.faults address + failures_at endpoints address js rs)

-- ---- several

-- each job has one reply, in their order, where the exchanges stand in some other
abbrev pub AreDoneInSome : List EndpointParts → List Job → List JobReply → List Exchange → Type 0
AreDoneInSome endpoints js rs xs = (ordered : List Exchange) × AreDone endpoints js rs ordered × IsPermutation ordered xs

-- where all wires tell the graph of its address, the reply is honest, if it is whole
abbrev pub IsHonestOver : List Seen → Exchange → Type 0
IsHonestOver wires x = (graph : List Triple) → Tell wires x.at.iri graph → IsGraph graph × (length x.reply ≤ 67108864 → IsHonest graph x.request x.reply)

-- Wires did jobs, with these replies where there are any: what they exchanged, one wire's part behind the other's, and the faults that
-- they counted, together.
pub record WiresDid (tells alone : Bool) (before after : List Seen) (endpoints : List EndpointParts) (js : List Job) (replies : Option (List JobReply)) : Type 0 where
  pub exchanges : List Exchange
  pub gained : IsTrue tells → HaveGained before after exchanges
  pub honest : All (IsHonestOver before) exchanges
  pub left : AreAfter before after
  pub of_jobs : AreOfJobs endpoints js exchanges
  pub done : IfSome replies (λ rs. AreDoneInSome endpoints js rs exchanges)
  pub counted : IfSome replies (λ rs. (address : List ℕ) → faults_at before address + failures_at endpoints address js rs ≤ faults_at after address)
  pub few : IsTrue alone → (address : List ℕ) → faults_at after address ≤ faults_at before address + jobs_at endpoints address js
  pub exact : IsTrue alone → IfSome replies (λ rs. (address : List ℕ) → faults_at after address ≡ faults_at before address + failures_at endpoints address js rs)

abbrev pub WiresDidOver : WiresSeen → List EndpointParts → List Job → Option (List JobReply) → Type 0
WiresDidOver w endpoints js replies = WiresDid w.tells w.alone w.before w.after endpoints js replies

-- ---- answers as replies

abbrev pub one_reply : Result JobReply Memory → Option (List JobReply)
one_reply (Ok r) = Some (r ∷ [])
one_reply (Err why) = None

abbrev pub all_replies : Result (Vec JobReply Global) Memory → Option (List JobReply)
all_replies (Ok rs) = Some rs.items
all_replies (Err why) = None
