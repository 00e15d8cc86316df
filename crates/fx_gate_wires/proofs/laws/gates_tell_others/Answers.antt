use Rattle.fx_gate_wires.proofs.ToldLemmas.{tell_others}
use Rattle.fx_gate_wires.proofs.laws.gates_tell_others.Goals as goal

pub returns : goal.returns
returns c = tell_others
