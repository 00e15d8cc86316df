use Rattle.std.proofs.Common.{arith}
use Rattle.fx_algebra.specs.Sequences.{sorted_by}
use Rattle.fx_store.specs.Orders.{order_cmp}
use Rattle.fx_store.proofs.PlaceLemmas.{place_is, place_within}
use Rattle.fx_store.proofs.orders.place_at.Goals as goal

pub returns-clause-triple : goal.returns-clause-triple
returns-clause-triple c =
    let graph = c.args.triples.now in
    place_is (sorted_by (order_cmp c.args._first) graph) graph c.args.places.now c.args.place c.requires.order.sorted (omega (arith, c.requires.order.all, c.requires.place))

pub returns-clause-within : goal.returns-clause-within
returns-clause-within c =
    let graph = c.args.triples.now in
    place_within (sorted_by (order_cmp c.args._first) graph) graph c.args.places.now c.args.place c.requires.order.sorted (omega (arith, c.requires.order.all, c.requires.place))
