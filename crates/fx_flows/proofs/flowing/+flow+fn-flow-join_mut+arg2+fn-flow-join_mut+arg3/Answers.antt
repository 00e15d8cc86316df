use Rattle.std.proofs.Common.{map, rules}
use Rattle.fx_flows.proofs.FlowLemmas.{both_flowed, first_flowed}
use Rattle.fx_flows.proofs.flowing.+flow+fn-flow-join_mut+arg2+fn-flow-join_mut+arg3.Goals as goal

pub returns-clause-flowed : goal.returns-clause-flowed
returns-clause-flowed g t c =
    both_flowed g.W.Wire.seen g.W.Wire.tells_log g.W.Wire.counts_alone c.args.run.now.endpoints.now (map g.U.Step.unit c.args.run.now.units.now) c.args.run.now.shape
    c.args.me.now.me.view.client c.shared_out-other.new.me.me.view.client c.me-1.given.0.me.view.client c.shared_out-other.result.me.view.client c.other-2-1.given.0.me.view.client c.taken_in.new.me.me.view.client
    c.args.wires.now c.split_at_mut-left.result.0.now c.left-1.given.0 c.split_at_mut-left.result.1.now c.right-1.given.0
    c.join_mut-ours.result.0 c.join_mut-ours.result.1 c.both.result
    (search rules) c.shared_out-other.ensures.kept c.shared_out-other.ensures.made (search rules) (search rules) (search rules) (search rules)

pub returns-then-wires-lt2-clause-flowed : goal.returns-then-wires-lt2-clause-flowed
returns-then-wires-lt2-clause-flowed g t c =
    -- the laws of a type that may be sent hold wherever a thread runs, and so here
    let laws = g.met.W.Wire g.world.𝓛 g.world.𝓜 g.world.𝓡 ((λ s x. x), (λ x. x), (λ x. x), λ x. x) in
    first_flowed g.W.Wire.seen g.W.Wire.tells_log g.W.Wire.counts_alone c.args.wires.now c.index-wires-0.result c.work.new.wire c.args.run.now.endpoints.now (map g.U.Step.unit c.args.run.now.units.now) c.args.run.now.shape
    c.args.me.now.me.view.client c.work.new.me.me.view.client c.work.result laws.told c.requires.wired.0 c.work.ensures.flowed
