use Rattle.fx_gate_wires.proofs.GateLemmas.{own_gate}
use Rattle.fx_gate_wires.proofs.gates.GateWire.own.Goals as goal

pub invariant_of-self : goal.invariant_of-self
invariant_of-self g c = record {
  known = own_gate g.W.Wire.seen g.W.Wire.tells_log g.W.Wire.counts_alone c.args.self.now.at c.args.self.now.registry c.args.self.now.cache c.own_reply.new.cache c.args.self.now.options.block
      c.args.self.now.wires.items c.own_reply.new.wires.items c.args.request.now c.args.limit c.own_reply.result c.args.self.now.known c.own_reply.ensures.after c.own_reply.ensures.answered;
}

pub invariant_of-self-in-Ok-None : goal.invariant_of-self-in-Ok-None
invariant_of-self-in-Ok-None g c = record {
  known = own_gate g.W.Wire.seen g.W.Wire.tells_log g.W.Wire.counts_alone c.args.self.now.at c.args.self.now.registry c.args.self.now.cache c.own_reply.new.cache c.args.self.now.options.block
      c.args.self.now.wires.items c.own_reply.new.wires.items c.args.request.now c.args.limit c.own_reply.result c.args.self.now.known c.own_reply.ensures.after c.own_reply.ensures.answered;
}

pub invariant_of-self-in-Err : goal.invariant_of-self-in-Err
invariant_of-self-in-Err g c = record {
  known = own_gate g.W.Wire.seen g.W.Wire.tells_log g.W.Wire.counts_alone c.args.self.now.at c.args.self.now.registry c.args.self.now.cache c.own_reply.new.cache c.args.self.now.options.block
      c.args.self.now.wires.items c.own_reply.new.wires.items c.args.request.now c.args.limit c.own_reply.result c.args.self.now.known c.own_reply.ensures.after c.own_reply.ensures.answered;
}
