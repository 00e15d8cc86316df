-- What workers side by side did: the jobs whose numbers they drew.
use Rattle.std.specs.Prelude.{◌≡◌, ◌<◌, ℕ, Bool, List, [], ◌∷◌, Option, Some, None, IfOk, IsPermutation, Result, Ok, Err, filter, length, ltb, map, slice_get, Vec}
use Rattle.std.specs.List.{flat_map}
use Rattle.std.specs.List.Sorted.{IsNonDecreasingBy}
use Rattle.std.specs.declared.alloc.Global.{Global}
use Rattle.fx_terms.specs.declared.allocation.Memory.{Memory}
use Rattle.fx_outside.specs.Endpoints.{EndpointParts}
use Rattle.fx_traffic.specs.Gains.{WiresSeen}
use Rattle.fx_wire.specs.Exchanges.{Seen}
use Rattle.fx_pool.specs.Claims.{IsSameSeat}
use Rattle.fx_pool.specs.Runs.{WireDid, WiresDid}
use Rattle.fx_pool.specs.declared.claims.Drawn.{Drawn}
use Rattle.fx_pool.specs.declared.jobs.Done.{Done}
use Rattle.fx_pool.specs.declared.jobs.Job.{Job}
use Rattle.fx_pool.specs.declared.jobs.JobReply.{JobReply}

abbrev pub number_of : Done → ℕ
number_of d = d.number

abbrev pub reply_of : Done → JobReply
reply_of d = d.reply

-- ---- the jobs of numbers

abbrev pub at_most_one : Option Job → List Job
at_most_one None = []
at_most_one (Some j) = j ∷ []

-- a number past the jobs has none
abbrev pub jobs_of : List Job → List ℕ → List Job
jobs_of jobs numbers = flat_map (λ n. at_most_one (slice_get jobs n)) numbers

abbrev pub below : ℕ → List ℕ → List ℕ
below count numbers = filter (λ n. ltb n count) numbers

-- ---- what came of them

abbrev pub replies_in : Result (Vec Done Global) Memory → Option (List JobReply)
replies_in (Ok done) = Some (map reply_of done.items)
replies_in (Err why) = None

-- what a worker with one wire did: the jobs whose numbers it drew, in that order, to the first number past them, unless memory ran out
pub record HasWorked (alone : Bool) (before after : Seen) (endpoints : List EndpointParts) (jobs : List Job) (me later : Drawn × List (ℕ × ℕ)) (result : Result (Vec Done Global) Memory) : Type 0 where
  pub seat : IsSameSeat me later
  pub did : WireDid alone before after endpoints (jobs_of jobs later.0.numbers) (replies_in result)
  pub all : IfOk result (λ done. (0 < later.0.past) × (map number_of done.items ≡ below (length jobs) later.0.numbers))

-- so it is of workers with several wires
pub record HaveWorked (tells alone : Bool) (before after : List Seen) (endpoints : List EndpointParts) (jobs : List Job) (me later : Drawn × List (ℕ × ℕ)) (result : Result (Vec Done Global) Memory) : Type 0 where
  pub seat : IsSameSeat me later
  pub did : WiresDid tells alone before after endpoints (jobs_of jobs later.0.numbers) (replies_in result)
  pub all : IfOk result (λ done. (0 < later.0.past) × (map number_of done.items ≡ below (length jobs) later.0.numbers))

abbrev pub HaveWorkedOver : WiresSeen → List EndpointParts → List Job → Drawn × List (ℕ × ℕ) → Drawn × List (ℕ × ℕ) → Result (Vec Done Global) Memory → Type 0
HaveWorkedOver w endpoints jobs me later result = HaveWorked w.tells w.alone w.before w.after endpoints jobs me later result

-- ---- in the order of their numbers

pub record AreInOrder (done : List Done) (replies : List JobReply) : Type 0 where
  pub ordered : List Done
  pub same : IsPermutation done ordered
  pub rising : IsNonDecreasingBy number_of ordered
  pub taken : replies ≡ map reply_of ordered
