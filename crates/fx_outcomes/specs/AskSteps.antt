-- The steps of asking for probes: the jobs, and the truths that their replies tell.
use Rattle.std.specs.Prelude.{◌≡◌, ℕ, Bool, List, Contains, Result, Ok, Err}
use Rattle.std.specs.List.{zip}
use Rattle.fx_keys.specs.declared.probes.Probe.{Probe}
use Rattle.fx_sources.specs.Sources.{ask_text}
use Rattle.fx_flows.specs.declared.flows.FlowError.{FlowError}
use Rattle.fx_flows.specs.declared.flows.FlowError.TheVariants as flow
use Rattle.fx_pool.specs.declared.jobs.Job.{Job}
use Rattle.fx_pool.specs.declared.jobs.JobReply.{JobReply}
use Rattle.fx_pool.specs.declared.jobs.JobReply.TheVariants as reply
use Rattle.fx_pool.specs.declared.jobs.Work.TheVariants as work

-- the job that asks for a probe
abbrev pub job_of : Probe → Job
job_of p = record { at = p.at; work = work.Ask (ask_text p.key.pattern) }

-- an ASK has no rows
abbrev pub IsForAsk : JobReply → Type 0
IsForAsk (reply.Found founds) = ⊥
IsForAsk (reply.Table rows) = ⊥
IsForAsk r = Unit {0}

-- the reply is no truth value, and this is the refusal that says so of its endpoint
abbrev pub IsRefusal : ℕ → JobReply → FlowError → Type 0
IsRefusal at reply.Failed e = e ≡ flow.Member at
IsRefusal at (reply.Bad bad) e = e ≡ flow.BadReply at bad
IsRefusal at (reply.TooLong size) e = e ≡ flow.RequestTooLong at size
IsRefusal at r e = ⊥

-- the truth value that a reply of an endpoint is, or the refusal
abbrev pub IsTruthOf : ℕ → JobReply → Result Bool FlowError → Type 0
IsTruthOf at r (Ok truth) = r ≡ reply.Truth truth
IsTruthOf at r (Err e) = IsRefusal at r e

-- one of the replies, to this probe, is refused so
pub record IsRefused (probes : List Probe) (replies : List JobReply) (e : FlowError) : Type 0 where
  pub probe : Probe
  pub reply : JobReply
  pub among : Contains (zip probes replies) (probe, reply)
  pub refused : IsRefusal probe.at reply e
