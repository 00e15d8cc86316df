use Rattle.fx_turtle.proofs.Said.{loose_iri}
use Rattle.fx_turtle.proofs.looks.kind_of.Goals as goal

pub returns-in-Iri : goal.returns-in-Iri
returns-in-Iri c = rw c.in-Iri.is (loose_iri c.args.text.now)
