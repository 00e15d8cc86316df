use Rattle.std.proofs.Common.{rules, append_assoc}
use Rattle.fx_tape.specs.Tapes.{tape_text}
use Rattle.fx_tape.proofs.writing.write_tape.Goals as goal

pub returns : goal.returns
unfolding tape_text
returns c = search (rules, append_assoc)
