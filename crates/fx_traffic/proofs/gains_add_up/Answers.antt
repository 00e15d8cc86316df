-- The laws are the lemmas of `GainLemmas`.
use Rattle.fx_traffic.proofs.GainLemmas.{gain_laws}
use Rattle.fx_traffic.proofs.gains_add_up.Goals as goal

pub returns : goal.returns
returns c = gain_laws
