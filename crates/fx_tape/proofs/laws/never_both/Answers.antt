use Rattle.fx_tape.proofs.TapeLemmas.{never_both}
use Rattle.fx_tape.proofs.laws.never_both.Goals as goal

pub returns : goal.returns
returns c = never_both
