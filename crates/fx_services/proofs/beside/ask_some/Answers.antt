use Rattle.std.proofs.Common.{◌≡◌, ◌∙◌, ◌<◌, ap, map, sym, subst, List, All, length, arith}
use Rattle.std.proofs.lemmas.List.Elements.{All-from_recursion}
use Rattle.fx_outside.specs.Endpoints.{EndpointParts}
use Rattle.fx_pool.specs.Runs.{WiresDid, all_replies}
use Rattle.fx_pool.specs.declared.jobs.Job.{Job}
use Rattle.fx_pool.proofs.OrderLemmas.{nothing_done}
use Rattle.fx_services.specs.Beside.{jobs_of}
use Rattle.fx_services.proofs.SideLemmas.{few_jobs, jobs_within}
use Rattle.fx_services.proofs.beside.ask_some.Goals as goal

pub returns-in-Err : goal.returns-in-Err
returns-in-Err g c =
    nothing_done g.W.Wire.tells_log g.W.Wire.counts_alone (map g.W.Wire.seen c.args.wires.now) c.args.registry.now (jobs_of c.args.registry.now c.args.asked.now)
    (All-from_recursion (λ (j : Job). j.at < length c.args.registry.now) (jobs_of c.args.registry.now c.args.asked.now) (jobs_within c.args.registry.now c.args.asked.now))

pub run_jobs-requires-clause-within : goal.run_jobs-requires-clause-within
run_jobs-requires-clause-within g c =
    subst (λ (v : List Job). All (λ (j : Job). j.at < length c.endpoints.result.now) v) (sym (c.as_slice.ensures.value ∙ c.in-Ok.ensures.jobs))
    (subst (λ (v : List EndpointParts). All (λ (j : Job). j.at < length v) (jobs_of c.args.registry.now c.args.asked.now)) (sym c.endpoints.ensures.value)
    (All-from_recursion (λ (j : Job). j.at < length c.args.registry.now) (jobs_of c.args.registry.now c.args.asked.now) (jobs_within c.args.registry.now c.args.asked.now)))

pub run_jobs-requires-clause-few : goal.run_jobs-requires-clause-few
run_jobs-requires-clause-few g c =
    let long : length c.as_slice.result.now ≡ length (jobs_of c.args.registry.now c.args.asked.now) = ap length (c.as_slice.ensures.value ∙ c.in-Ok.ensures.jobs) in
    let few = c.requires.few in
    omega (arith, long, few, few_jobs c.args.registry.now c.args.asked.now)
