use Rattle.std.proofs.Common.{◌≡◌, refl, subst, ℕ, List, Some, Ok, Err, length, slice_get}
use Rattle.std.proofs.lemmas.Option.{slice_get_read}
use Rattle.fx_outside.proofs.AlikeLemmas.{alike}
use Rattle.fx_pool.specs.Jobs.{text_of}
use Rattle.fx_pool.specs.Posting.{IsPosted}
use Rattle.fx_pool.proofs.JobLemmas.{did_job, follows_from}
use Rattle.fx_pool.proofs.running.do_job.Goals as goal

pub returns-in-Ok : goal.returns-in-Ok
returns-in-Ok g c =
    let see = g.W.Wire.seen in
    let es = c.args.endpoints.now in
    let j = c.args.job.now in
    let e = c.index-endpoints-job.result in
    let p = c.in-Ok.posted in
    let found : slice_get es j.at ≡ Some e = slice_get_read es (length es) j.at e refl c.requires.within c.index-endpoints-job.is in
    let sent : IsPosted e (text_of j.work) p = subst (λ (v : List ℕ). IsPosted e v p) c.text.ensures c.in-Ok.ensures.posted in
    did_job es j e found g.W.Wire.counts_alone (see c.args.wire.now) (see c.post.new.wire) (Ok p) c.reply_of.result (alike g.met.W.Wire.told c.post.new.wire c.args.wire.now) (follows_from j.work p c.reply_of.result c.reply_of.ensures) sent
    c.in-Ok.ensures.logged c.in-Ok.ensures.honest c.in-Ok.ensures.same c.in-Ok.ensures.kept c.in-Ok.ensures.counted c.in-Ok.ensures.others

pub returns-in-Err : goal.returns-in-Err
returns-in-Err g c =
    let see = g.W.Wire.seen in
    let es = c.args.endpoints.now in
    let j = c.args.job.now in
    let e = c.index-endpoints-job.result in
    let found : slice_get es j.at ≡ Some e = slice_get_read es (length es) j.at e refl c.requires.within c.index-endpoints-job.is in
    did_job es j e found g.W.Wire.counts_alone (see c.args.wire.now) (see c.post.new.wire) (Err _) (Err _) (alike g.met.W.Wire.told c.post.new.wire c.args.wire.now) tt tt
    c.in-Err.ensures.logged tt c.in-Err.ensures.same c.in-Err.ensures.kept c.in-Err.ensures.counted c.in-Err.ensures.others
