use Rattle.std.proofs.Common.{◌≡◌, ◌∙◌, ◌<◌, sym, subst, List, All, map, length}
use Rattle.std.proofs.lemmas.List.Elements.{All-map}
use Rattle.fx_pool.specs.declared.jobs.Job.{Job}
use Rattle.fx_pool.proofs.OrderLemmas.{nothing_done}
use Rattle.fx_outcomes.specs.AskSteps.{job_of}
use Rattle.fx_outcomes.proofs.asks.ask_some.Goals as goal

pub returns-in-Err : goal.returns-in-Err
returns-in-Err g c =
    nothing_done g.W.Wire.tells_log g.W.Wire.counts_alone (map g.W.Wire.seen c.args.wires.now) c.args.endpoints.now (map job_of c.args.probes.now)
    (All-map (λ (j : Job). j.at < length c.args.endpoints.now) job_of c.args.probes.now c.requires.within)

pub run_jobs-requires-clause-within : goal.run_jobs-requires-clause-within
run_jobs-requires-clause-within g c =
    let jobs : c.as_slice.result.now ≡ map job_of c.args.probes.now = c.as_slice.ensures.value ∙ c.in-Ok.ensures in
    subst (λ (js : List Job). All (λ (j : Job). j.at < length c.args.endpoints.now) js) (sym jobs) (All-map (λ (j : Job). j.at < length c.args.endpoints.now) job_of c.args.probes.now c.requires.within)
