use Rattle.std.proofs.Common.{All, subst}
use Rattle.fx_terms.specs.Triples.{IsTriple}
use Rattle.fx_terms.proofs.graphs.Graph.triples.Goals as goal

pub returns-clause-terms : goal.returns-clause-terms
returns-clause-terms c = subst (All IsTriple) c.self.view_is c.self.invariant.terms
