use Rattle.fx_turtle.proofs.Leaves.{alone_iri}
use Rattle.fx_turtle.proofs.statements.iri_alone.Goals as goal

pub returns-in-Iri : goal.returns-in-Iri
returns-in-Iri c = rw (c.in-Iri.is, ← (alone_iri c.args.text.now)) c.iri_in.ensures
