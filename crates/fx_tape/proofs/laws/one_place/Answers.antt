use Rattle.fx_tape.proofs.TapeLemmas.{one_place}
use Rattle.fx_tape.proofs.laws.one_place.Goals as goal

pub returns : goal.returns
returns c = one_place
