use Rattle.fx_gate_wires.proofs.ToldLemmas.{tell_the_union}
use Rattle.fx_gate_wires.proofs.laws.gates_tell_the_union.Goals as goal

pub returns : goal.returns
returns c = tell_the_union
