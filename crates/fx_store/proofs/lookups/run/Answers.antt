use Rattle.std.proofs.Common.{◌∙◌, ap, arith}
use Rattle.std.specs.Ordering.{is_eq}
use Rattle.fx_terms.specs.declared.triples.Triple.{Triple}
use Rattle.fx_store.specs.Orders.{in_order, first_of}
use Rattle.fx_store.specs.Lookups.{place, has_parts}
use Rattle.fx_store.proofs.OnePlaceLemmas.{ends_rise, run_between}
use Rattle.fx_store.proofs.RunLemmas.{as_many, level, same_filter}
use Rattle.fx_store.proofs.lookups.run.Goals as goal

-- the first end stands no further than the last
pub returns-clause-within : goal.returns-clause-within
returns-clause-within g c =
    let order = c.order-order.result in
    let graph = c.args.orders.now in
    record {
      order = c.order-order.ensures.below;
      rises =
          ends_rise (place (first_of order) c.args.sought.now) (in_order order graph) c.search-start.result c.search-end.result
          (omega (arith, as_many order graph, c.search-start.ensures.within)) c.search-start.ensures.point c.search-end.ensures.point;
      ends = c.search-end.ensures.within;
    }

pub returns-clause-run : goal.returns-clause-run
returns-clause-run g c =
    let order = c.order-order.result in
    let graph = c.args.orders.now in
    let k = c.args.sought.now in
    let xs = in_order order graph in
    run_between (place (first_of order) k) xs c.search-start.result c.search-end.result (returns-clause-within g c).rises (omega (arith, as_many order graph, c.search-end.ensures.within))
    c.search-start.ensures.point c.search-end.ensures.point
    ∙ same_filter (λ (t : Triple). is_eq (place (first_of order) k t)) (has_parts k) xs (λ t. ap (λ n. is_eq (place (first_of n) k t)) c.order-order.ensures.order ∙ level k t)
