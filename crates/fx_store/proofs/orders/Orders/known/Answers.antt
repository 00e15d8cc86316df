use Rattle.std.proofs.Common.{subst}
use Rattle.fx_terms.specs.Graphs.{IsGraph}
use Rattle.fx_store.proofs.orders.Orders.known.Goals as goal

pub returns : goal.returns
returns c = subst IsGraph c.self.view_is (record { rises = c.triples-triples.ensures.rises; terms = c.triples-triples.ensures.terms })
