use Rattle.std.proofs.Common.{◌≡◌, map, rules, true, false}
use Rattle.std.specs.Prelude.{bytes_eq, ◌≢◌}
use Rattle.std.proofs.lemmas.Slice.Eq.{bytes_eq-Decides}
use Rattle.fx_gate_wires.proofs.GateLemmas.{counts_still, gives_honest, passed_honest, told_still}
use Rattle.fx_gate_wires.proofs.gates.GateWireWire.exchange.Goals as goal

pub returns-then-eq-clause-honest : goal.returns-then-eq-clause-honest
returns-then-eq-clause-honest g c =
    let gate = c.args.self.now in
    let later = c.own.new.self in
    let test : bytes_eq c.args.at.now.iri gate.at ≡ true = search rules in
    let is : c.args.at.now.iri ≡ gate.at = (bytes_eq-Decides c.args.at.now.iri gate.at).0 test in
    gives_honest g.W.Wire.seen g.W.Wire.tells_log g.W.Wire.counts_alone gate.at gate.registry gate.cache later.cache gate.options.block gate.wires.items later.wires.items gate.faults c.args.at.now.iri c.args.request.now c.args.limit c.own.result
    gate.known is c.own.ensures.given

pub returns-then-eq-clause-same : goal.returns-then-eq-clause-same
returns-then-eq-clause-same g c =
    let gate = c.args.self.now in
    let later = c.own.new.self in
    told_still gate.at gate.registry later.at later.registry c.own.ensures.settled.0 c.own.ensures.settled.1 later.faults gate.faults (map g.W.Wire.seen gate.wires.items) (map g.W.Wire.seen later.wires.items) c.own.ensures.after

pub returns-then-eq-clause-kept : goal.returns-then-eq-clause-kept
returns-then-eq-clause-kept g c =
    let gate = c.args.self.now in
    let later = c.own.new.self in
    counts_still gate.at gate.registry later.at later.registry c.own.ensures.settled.0 c.own.ensures.settled.1 later.faults gate.faults (map g.W.Wire.seen gate.wires.items) (map g.W.Wire.seen later.wires.items) c.own.ensures.kept c.own.ensures.after

pub returns-else-eq-clause-honest : goal.returns-else-eq-clause-honest
returns-else-eq-clause-honest g c =
    let gate = c.args.self.now in
    let later = c.pass_on.new.self in
    let test : bytes_eq c.args.at.now.iri gate.at ≡ false = search rules in
    let other : c.args.at.now.iri ≢ gate.at = λ is. (let same = (bytes_eq-Decides c.args.at.now.iri gate.at).1 is in absurd (cc)) in
    passed_honest (map g.W.Wire.seen gate.wires.items) (map g.W.Wire.seen later.wires.items) c.args.at.now c.args.request.now c.args.limit c.pass_on.result c.pass_on.ensures.passed gate.at gate.registry gate.faults other
