use Rattle.fx_gate_wires.proofs.GateLemmas.{after_over, answered_over}
use Rattle.fx_gate_wires.proofs.replies.over_first.Goals as goal

pub returns-clause-answered : goal.returns-clause-answered
returns-clause-answered g c =
    answered_over g.W.Wire.seen g.W.Wire.tells_log g.W.Wire.counts_alone g.met.W.Wire.told c.args.registry.now c.args.cache.now c.gated_over.new.cache c.args.options.block
    c.args.wires.now c.split_at_mut-first.result.0.now c.split_at_mut-first.result.1.now c.gated_over.new.wires c.split_at_mut-first.ensures.value c.split_at_mut-first.ensures.front_len c.args.request.now c.args.limit c.gated_over.result
    c.gated_over.ensures

pub returns-clause-after : goal.returns-clause-after
returns-clause-after g c =
    after_over g.W.Wire.seen g.W.Wire.tells_log g.W.Wire.counts_alone g.met.W.Wire.told c.args.registry.now c.args.cache.now c.gated_over.new.cache c.args.options.block
    c.args.wires.now c.split_at_mut-first.result.0.now c.split_at_mut-first.result.1.now c.gated_over.new.wires c.split_at_mut-first.ensures.value c.split_at_mut-first.ensures.front_len c.args.request.now c.args.limit c.gated_over.result
    c.gated_over.ensures
