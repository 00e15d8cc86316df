use Rattle.std.proofs.Common.{◌∙◌, ◌≡◌, ◌-◌, sym, subst, ap, length, arith, List}
use Rattle.std.specs.Prelude.{IfOk}
use Rattle.std.specs.List.{filter_map, slice_get}
use Rattle.fx_terms.specs.declared.triples.Triple.{Triple}
use Rattle.fx_algebra.specs.BasicGraphPatterns.{parts_of, forced}
use Rattle.fx_algebra.specs.Sequences.{sorted_by}
use Rattle.fx_store.specs.Orders.{in_order, order_cmp, triples_of, AreFound}
use Rattle.fx_store.specs.declared.orders.Part.TheVariants.{Subject}
use Rattle.fx_store.proofs.PlaceLemmas.{within, place_count}
use Rattle.fx_store.proofs.RunLemmas.{as_many}
use Rattle.fx_store.proofs.SortLemmas.{length_sorted}
use Rattle.fx_store.proofs.WalkLemmas.{all_found, run_length}
use Rattle.fx_store.proofs.evaluation.rows_in_order.Goals as goal

pub rows_at-requires : goal.rows_at-requires
rows_at-requires g c =
    let graph = c.args.orders.now in
    subst (AreFound graph) (sym c.as_slice.ensures.value) (within graph c.in_ok-places.places.items (sorted_by (order_cmp Subject) (triples_of c.args.run graph)) c.in_ok-places.ensures)

pub returns-clause-rows : goal.returns-clause-rows
returns-clause-rows g c =
    let graph = c.args.orders.now in
    let ts = sorted_by (order_cmp Subject) (triples_of c.args.run graph) in
    subst (λ (v : List Triple). IfOk c.rows_at.result (λ rows. rows.items ≡ filter_map (λ t. forced c.args.row.now (parts_of c.args.pattern.now t)) v))
    (ap (filter_map (slice_get graph)) c.as_slice.ensures.value ∙ all_found (slice_get graph) c.in_ok-places.places.items ts c.in_ok-places.ensures)
    c.rows_at.ensures.rows

pub returns-clause-steps : goal.returns-clause-steps
returns-clause-steps g c =
    let graph = c.args.orders.now in
    let run = c.args.run in
    let ts = triples_of run graph in
    let many : length c.as_slice.result.now ≡ run.end - run.start =
    ap length c.as_slice.ensures.value
    ∙ place_count graph c.in_ok-places.places.items (sorted_by (order_cmp Subject) ts) c.in_ok-places.ensures
    ∙ length_sorted (order_cmp Subject) ts
    ∙ run_length (in_order run.order graph) run.start run.end c.requires.rises (omega (arith, as_many run.order graph, c.requires.ends)) in
    omega (arith, many, c.rows_at.ensures.steps)
