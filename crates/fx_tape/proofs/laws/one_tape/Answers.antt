use Rattle.fx_tape.proofs.TapeLemmas.{one_tape}
use Rattle.fx_tape.proofs.laws.one_tape.Goals as goal

pub returns : goal.returns
returns c = one_tape
