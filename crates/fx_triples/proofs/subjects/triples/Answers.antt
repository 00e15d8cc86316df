use Rattle.fx_triples.proofs.TripleLaws.{triples_are}
use Rattle.fx_triples.proofs.subjects.triples.Goals as goal

pub returns : goal.returns
returns c = rw (triples_are c.args.prefixes.now c.args.tokens.now c.in_ok-first.rest.now c.in_ok-first.first c.in_ok-first.ensures) c.triples_more.ensures
