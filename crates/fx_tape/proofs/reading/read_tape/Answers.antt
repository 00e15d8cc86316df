use Rattle.fx_tape.proofs.TapeLemmas.{read_as, refused_as}
use Rattle.fx_tape.proofs.reading.read_tape.Goals as goal

pub returns-clause-only : goal.returns-clause-only
returns-clause-only c = λ t h. read_as t c.args.bytes.now c.read.result h c.read.ensures

pub returns-clause-refused : goal.returns-clause-refused
returns-clause-refused c = λ place h. refused_as c.args.bytes.now place c.read.result h c.read.ensures
