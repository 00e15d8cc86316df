use Rattle.std.proofs.Common.{map, rules}
use Rattle.fx_pool.specs.Sharing.{jobs_of, replies_in}
use Rattle.fx_pool.proofs.BesideLemmas.{both_worked}
use Rattle.fx_pool.proofs.WireLemmas.{first_did}
use Rattle.fx_pool.proofs.sharing.+fn-share-join_mut+arg2+fn-share-join_mut+arg3+share.Goals as goal

pub returns-clause-worked : goal.returns-clause-worked
returns-clause-worked g t c =
    both_worked g.W.Wire.seen g.W.Wire.tells_log g.W.Wire.counts_alone c.args.endpoints.now (map g.T.Task.job c.args.tasks.now)
    c.args.me.now.me c.split-other.new.me.me c.me-1.given.0.me c.split-other.result.me c.other-2-1.given.0.me c.joined.new.me.me
    c.args.wires.now c.split_at_mut-left.result.0.now c.left-1.given.0 c.split_at_mut-left.result.1.now c.right-1.given.0
    c.join_mut-ours.result.0 c.join_mut-ours.result.1 c.both.result
    (search rules) c.split-other.ensures.kept c.split-other.ensures.made (search rules) (search rules) (search rules) (search rules)

pub returns-then-wires-lt2-clause-worked : goal.returns-then-wires-lt2-clause-worked
returns-then-wires-lt2-clause-worked g t c =
    -- the laws of a type that may be sent hold wherever a thread runs, and so here
    let laws = g.met.W.Wire g.world.𝓛 g.world.𝓜 g.world.𝓡 ((λ s x. x), (λ x. x), (λ x. x), λ x. x) in
    let worked = c.work.ensures.worked in
    record {
      seat = worked.seat;
      did =
          first_did g.W.Wire.seen g.W.Wire.tells_log g.W.Wire.counts_alone c.args.wires.now c.index-wires-0.result c.work.new.wire c.args.endpoints.now (jobs_of (map g.T.Task.job c.args.tasks.now) c.work.new.me.me.0.numbers) (replies_in c.work.result)
          laws.told c.requires.wired.0 worked.did;
      all = worked.all;
    }
