use Rattle.fx_turtle.proofs.Answering.{turtle_answered, cause_answered}
use Rattle.fx_turtle.proofs.reading.read_text.Goals as goal

pub returns-in-Ok-of : goal.returns-in-Ok-of
returns-in-Ok-of c = turtle_answered c.args.text.now c.in-Ok.triples.items c.in-Ok-of.graph c.in-Ok.ensures.found c.in-Ok-of.ensures.exact

pub returns-in-Err : goal.returns-in-Err
returns-in-Err c = cause_answered c.args.text.now c.in-Err.error c.in-Err.ensures.refused
