use Rattle.std.proofs.Common.{subst, All}
use Rattle.std.proofs.lemmas.List.{take_all}
use Rattle.std.proofs.lemmas.List.Elements.{All-more}
use Rattle.fx_terms.specs.Triples.{IsTriple}
use Rattle.fx_terms.proofs.graphs.known.Goals as goal

pub loop-triple-preserved : goal.loop-triple-preserved
loop-triple-preserved c =
    All-more IsTriple c.args.triples.now c.loop-triple.triple-index c.triple-item.result c.loop-triple-test.true c.loop-triple.invariant
    (subst IsTriple c.triple-item.is c.known.ensures)

pub returns : goal.returns
returns c = subst (All IsTriple) (take_all c.loop-triple.triple-index c.args.triples.now c.loop-triple-test.false) c.loop-triple.invariant
