use denote.Param.Send.{sendable}
use Rattle.std.proofs.Common.{◌≡◌, ◌∙◌, ◌++◌, List, Ok, Err, map, length, subst, arith, rules}
use Rattle.fx_pool.specs.Sharing.{HaveWorked}
use Rattle.fx_pool.specs.declared.jobs.Job.{Job}
use Rattle.fx_pool.proofs.BesideLemmas.{beside_idle}
use Rattle.fx_pool.proofs.MoveLemmas.{map_same}
use Rattle.fx_pool.proofs.OrderLemmas.{ended, ended_early, nothing_done}
use Rattle.fx_pool.proofs.ShareLemmas.{jobs_are_shared}
use Rattle.fx_pool.proofs.running.run_jobs.Goals as goal

pub returns-in_default : goal.returns-in_default
returns-in_default g c = nothing_done g.W.Wire.tells_log g.W.Wire.counts_alone (map g.W.Wire.seen c.args.wires.now) c.args.endpoints.now c.args.jobs.now c.requires.within

pub returns-in-Ok-done : goal.returns-in-Ok-done
returns-in-Ok-done g c =
    let jobs = c.args.jobs.now in
    let see = g.W.Wire.seen in
    let before = map see c.args.wires.now in
    let after = map see (c.share-done.new.wires ++ c.split_at_mut-used.result.1.now) in
    let used = subst (λ (v : List Job). HaveWorked g.W.Wire.tells_log g.W.Wire.counts_alone (map see c.split_at_mut-used.result.0.now) (map see c.share-done.new.wires) c.args.endpoints.now v c.in-Ok.me.me c.share-done.new.me.me (Ok c.in-Ok-done.done)) (map_same jobs) c.in-Ok-done.ensures.worked in
    let worked = beside_idle see g.W.Wire.tells_log g.W.Wire.counts_alone c.args.endpoints.now jobs c.in-Ok.me.me c.share-done.new.me.me
    c.args.wires.now c.split_at_mut-used.result.0.now c.share-done.new.wires c.split_at_mut-used.result.1.now (Ok c.in-Ok-done.done) (search rules) used in
    let jobs_is : c.share-done.new.me.me.0.jobs ≡ length jobs = worked.seat.2 ∙ search rules in
    let reached = c.known-word.ensures.reached worked.all.0 in
    ended g.W.Wire.tells_log g.W.Wire.counts_alone before after c.args.endpoints.now jobs c.requires.within
    c.share-done.new.me.me.0.numbers c.known-word.result c.known-word.ensures.once c.in-Ok-done.done.items (omega (arith, reached, jobs_is)) worked.all.1 worked.did c.in_order.result c.in_order.ensures

pub returns : goal.returns
returns g c =
    let jobs = c.args.jobs.now in
    let see = g.W.Wire.seen in
    let before = map see c.args.wires.now in
    let after = map see (c.share-done.new.wires ++ c.split_at_mut-used.result.1.now) in
    let used = subst (λ (v : List Job). HaveWorked g.W.Wire.tells_log g.W.Wire.counts_alone (map see c.split_at_mut-used.result.0.now) (map see c.share-done.new.wires) c.args.endpoints.now v c.in-Ok.me.me c.share-done.new.me.me (Err _)) (map_same jobs) c.in-Err.ensures.worked in
    let worked = beside_idle see g.W.Wire.tells_log g.W.Wire.counts_alone c.args.endpoints.now jobs c.in-Ok.me.me c.share-done.new.me.me
    c.args.wires.now c.split_at_mut-used.result.0.now c.share-done.new.wires c.split_at_mut-used.result.1.now (Err _) (search rules) used in
    ended_early g.W.Wire.tells_log g.W.Wire.counts_alone before after c.args.endpoints.now jobs c.requires.within
    c.share-done.new.me.me.0.numbers c.known-word.result c.known-word.ensures.once worked.did

pub share-done-requires-sync-T : goal.share-done-requires-sync-T
share-done-requires-sync-T g c κs within = search (sendable, jobs_are_shared) depth 20
