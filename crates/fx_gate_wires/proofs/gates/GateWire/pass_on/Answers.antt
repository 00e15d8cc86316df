use Rattle.std.proofs.Common.{map}
use Rattle.fx_gate_wires.proofs.GateLemmas.{gate_after, passed_after}
use Rattle.fx_gate_wires.proofs.gates.GateWire.pass_on.Goals as goal

pub invariant_of-self : goal.invariant_of-self
invariant_of-self g c =
    let see = g.W.Wire.seen in
    let gate = c.args.self.now in
    let ws = map see gate.wires.items in
    let vs = map see c.passed_on.new.wires.items in
    record {
      known = gate_after gate.at gate.registry gate.options.block gate.cache gate.cache ws vs gate.known (passed_after ws vs c.args.at.now c.args.request.now c.args.limit c.passed_on.result c.passed_on.ensures) gate.known.entries_are;
    }
