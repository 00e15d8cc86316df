use Rattle.fx_tape.proofs.TapeLemmas.{written_read}
use Rattle.fx_tape.proofs.laws.written_is_read.Goals as goal

pub returns : goal.returns
returns c = written_read
