use Rattle.std.proofs.Common.{rules, ◌≡◌, ◌∙◌, ◌+◌, ◌<◌, ◌++◌, ◌∷◌, [], ap, sym, subst, All, List, Some, None, length, take, drop, take-append-drop}
use Rattle.std.proofs.lemmas.List.{take_all, take_more}
use Rattle.std.proofs.lemmas.List.Elements.{recursion_from_All}
use Rattle.fx_pool.specs.Runs.{WireDid}
use Rattle.fx_pool.specs.declared.jobs.Job.{Job}
use Rattle.fx_pool.specs.declared.jobs.JobReply.{JobReply}
use Rattle.fx_pool.proofs.BesideLemmas.{back_all}
use Rattle.fx_pool.proofs.RunLemmas.{did_both, did_nothing, more_left, replies_lost}
use Rattle.fx_alone.proofs.jobs.do_all.Goals as goal

pub loop-job-init : goal.loop-job-init
loop-job-init g c =
    let see = g.W.Wire.seen c.args.wire.now in
    subst (λ (v : List JobReply). WireDid g.W.Wire.counts_alone see see c.args.endpoints.now [] (Some v)) (sym c.new-replies.ensures.items) (did_nothing g.W.Wire.counts_alone see c.args.endpoints.now)

pub returns-in-Err : goal.returns-in-Err
returns-in-Err g c =
    let see = g.W.Wire.seen in
    let alone = g.W.Wire.counts_alone in
    let es = c.args.endpoints.now in
    let js = c.args.jobs.now in
    let k = c.loop-job.job-index in
    let j = c.job-item.result in
    let more : take (k + 1) js ≡ take k js ++ j ∷ [] = take_more js k j c.loop-job-test.true ∙ ap (λ (v : Job). take k js ++ v ∷ []) (sym c.job-item.is) in
    let whole : (take k js ++ j ∷ []) ++ drop (k + 1) js ≡ js = ap (λ (v : List Job). v ++ drop (k + 1) js) (sym more) ∙ take-append-drop (k + 1) js in
    let Within = λ (v : Job). v.at < length es in
    let within = recursion_from_All Within (drop (k + 1) js) (back_all Within (take k js ++ j ∷ []) (drop (k + 1) js) (subst (All Within) (sym whole) c.requires.within)) in
    let s = see c.args.wire.now in
    let t = see c.loop-job.wire in
    let u = see c.perform.new.wire in
    subst (λ (v : List Job). WireDid alone s u es v None) whole
    (more_left alone s u es (take k js ++ j ∷ []) (drop (k + 1) js) within
    (did_both alone s t u es (take k js) (j ∷ []) c.loop-job.replies.items c.loop-job.invariant None c.in-Err.ensures))

pub returns-then-is_err : goal.returns-then-is_err
returns-then-is_err g c =
    let see = g.W.Wire.seen in
    let alone = g.W.Wire.counts_alone in
    let es = c.args.endpoints.now in
    let js = c.args.jobs.now in
    let k = c.loop-job.job-index in
    let j = c.job-item.result in
    let more : take (k + 1) js ≡ take k js ++ j ∷ [] = take_more js k j c.loop-job-test.true ∙ ap (λ (v : Job). take k js ++ v ∷ []) (sym c.job-item.is) in
    let whole : (take k js ++ j ∷ []) ++ drop (k + 1) js ≡ js = ap (λ (v : List Job). v ++ drop (k + 1) js) (sym more) ∙ take-append-drop (k + 1) js in
    let Within = λ (v : Job). v.at < length es in
    let within = recursion_from_All Within (drop (k + 1) js) (back_all Within (take k js ++ j ∷ []) (drop (k + 1) js) (subst (All Within) (sym whole) c.requires.within)) in
    let s = see c.args.wire.now in
    let t = see c.loop-job.wire in
    let u = see c.perform.new.wire in
    let was = c.loop-job.replies.items in
    let r = c.in-Ok.reply in
    subst (λ (v : List Job). WireDid alone s u es v None) whole
    (more_left alone s u es (take k js ++ j ∷ []) (drop (k + 1) js) within
    (replies_lost alone s u es (take k js ++ j ∷ []) (was ++ r ∷ []) (did_both alone s t u es (take k js) (j ∷ []) was c.loop-job.invariant (Some (r ∷ [])) c.in-Ok.ensures)))

pub loop-job-preserved : goal.loop-job-preserved
loop-job-preserved g c =
    let see = g.W.Wire.seen in
    let alone = g.W.Wire.counts_alone in
    let es = c.args.endpoints.now in
    let js = c.args.jobs.now in
    let k = c.loop-job.job-index in
    let j = c.job-item.result in
    let more : take (k + 1) js ≡ take k js ++ j ∷ [] = take_more js k j c.loop-job-test.true ∙ ap (λ (v : Job). take k js ++ v ∷ []) (sym c.job-item.is) in
    let s = see c.args.wire.now in
    let t = see c.loop-job.wire in
    let u = see c.perform.new.wire in
    let was = c.loop-job.replies.items in
    let r = c.in-Ok.reply in
    let pushed : c.push.new.self.items ≡ was ++ r ∷ [] = search rules in
    subst (λ (v : List JobReply). WireDid alone s u es (take (k + 1) js) (Some v)) (sym pushed)
    (subst (λ (v : List Job). WireDid alone s u es v (Some (was ++ r ∷ []))) (sym more)
    (did_both alone s t u es (take k js) (j ∷ []) was c.loop-job.invariant (Some (r ∷ [])) c.in-Ok.ensures))

pub returns : goal.returns
returns g c =
    subst (λ (v : List Job). WireDid g.W.Wire.counts_alone (g.W.Wire.seen c.args.wire.now) (g.W.Wire.seen c.loop-job.wire) c.args.endpoints.now v (Some c.loop-job.replies.items)) (take_all c.loop-job.job-index c.args.jobs.now (search rules)) c.loop-job.invariant
