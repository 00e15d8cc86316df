use Rattle.std.proofs.Common.{rules}
use Rattle.std.proofs.lemmas.Fn.{always_returns_same}
use Rattle.fx_store.specs.Orders.{order_cmp}
use Rattle.fx_store.proofs.PlaceLemmas.{below, order_ranks, still_all, all_in_order}
use Rattle.fx_store.proofs.orders.places_by.Goals as goal

pub returns : goal.returns
returns c =
    let graph = c.args.triples.now in
    let f = c.args.first in
    let sorted = c.sort_by.new.self.items in
    all_in_order f graph sorted (still_all graph c.args.places.items sorted c.requires c.in_ok-sort_by.ensures.permutation)
    (c.in_ok-sort_by.ensures.sorted (below (order_cmp f) graph) (order_ranks f graph) (always_returns_same _ _ _ (λ a r f called. search rules)))
