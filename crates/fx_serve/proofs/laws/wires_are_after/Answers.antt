use Rattle.fx_serve.proofs.ToldLemmas.{wires_after}
use Rattle.fx_serve.proofs.laws.wires_are_after.Goals as goal

pub returns : goal.returns
returns c = wires_after
