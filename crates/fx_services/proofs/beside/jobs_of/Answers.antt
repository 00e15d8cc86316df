use Rattle.std.proofs.Common.{◌≡◌, ◌∙◌, ◌++◌, ◌∷◌, [], ap, sym, List, None, Some, append-nil, rules}
use Rattle.std.proofs.lemmas.List.{take_all}
use Rattle.fx_pool.specs.declared.jobs.Job.{Job}
use Rattle.fx_sources.specs.Registries.{number_of}
use Rattle.fx_services.specs.Beside as spec
use Rattle.fx_services.specs.Beside.{Occurrence, job_if}
use Rattle.fx_services.specs.ServicesAsked.{job_of}
use Rattle.fx_services.proofs.ToldLemmas.{jobs_more}
use Rattle.fx_services.proofs.beside.jobs_of.Goals as goal
use Rattle.fx_services.proofs.beside.jobs_of.Goals.{in-Some+in_ok-job+else-is_err, in_default}

pub loop-occurrence-preserved : goal.loop-occurrence-preserved
loop-occurrence-preserved c =
    let es = c.args.registry.now in
    let os = c.args.asked.now in
    let k = c.loop-occurrence.occurrence-index in
    let o = c.occurrence-item.result in
    let old = c.loop-occurrence.jobs.items in
    elim c.match-endpoint_of.branch [
      | in-Some+in_ok-job+else-is_err w ↦
          (let number : number_of o.iri es ≡ Some w.in-Some.at = sym w.in-Some.ensures in
          let pushed : w.push.new.self.items ≡ old ++ w.in_ok-job.job ∷ [] = search rules in
          let job : w.in_ok-job.job ≡ job_of w.in-Some.at o.group = w.in_ok-job.ensures ∙ ap (λ (v : Occurrence). job_of w.in-Some.at v.group) c.occurrence.view_is in
          ap (λ v. v.items) w.jobs-is ∙ pushed ∙ ap (λ (v : List Job). v ++ w.in_ok-job.job ∷ []) c.loop-occurrence.invariant ∙ ap (λ (v : Job). spec.jobs_of es _ ++ v ∷ []) job
          ∙ sym (jobs_more es os k o c.loop-occurrence-test.true c.occurrence-item.is (Some w.in-Some.at) number))
      | in_default w ↦
          (let number : number_of o.iri es ≡ None = sym w.in_default.ensures in
          ap (λ v. v.items) w.jobs-is ∙ c.loop-occurrence.invariant ∙ sym (append-nil _) ∙ sym (jobs_more es os k o c.loop-occurrence-test.true c.occurrence-item.is None number))
    ]

pub returns : goal.returns
returns c =
    let all = take_all c.loop-occurrence.occurrence-index c.args.asked.now c.loop-occurrence-test.false in
    record { jobs = c.loop-occurrence.invariant ∙ ap (spec.jobs_of c.args.registry.now) all }
