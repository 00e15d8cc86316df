use Rattle.fx_store.specs.Orders.{triples_of}
use Rattle.fx_store.proofs.PlaceLemmas.{places_sorted}
use Rattle.fx_store.proofs.RunLemmas.{graph_ascends}
use Rattle.fx_store.proofs.orders.Orders.places.Goals as goal

pub returns : goal.returns
returns c =
    let graph = c.args.self.now in
    places_sorted graph (triples_of c.args.run graph) c.in_ok-places.places.items c.sort.new.self.items (graph_ascends graph c.known.ensures.rises) c.in_ok-places.ensures c.in_ok-sort.ensures.sorted c.in_ok-sort.ensures.permutation
