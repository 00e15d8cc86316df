use Rattle.fx_turtle.proofs.Answering.{same_text, utf8_answered}
use Rattle.fx_turtle.proofs.reading.read_bytes.Goals as goal

pub returns-in-Ok : goal.returns-in-Ok
returns-in-Ok c = same_text _ c.args.bytes.now _ c.in-Ok.ensures.found.0 c.read_text.ensures

pub returns-in-Err : goal.returns-in-Err
returns-in-Err c = utf8_answered c.args.bytes.now _ c.in-Err.ensures.refused
