use Rattle.std.proofs.Common.{◌≡◌, ◌∙◌, ◌-◌, ap, sym, subst, arith, length, filter, List}
use Rattle.std.specs.Prelude.{IfOk}
use Rattle.std.specs.List.{filter_map}
use Rattle.fx_terms.specs.declared.triples.Triple.{Triple}
use Rattle.fx_terms.specs.declared.patterns.Pattern.{Pattern}
use Rattle.fx_algebra.specs.Solutions.{Bindings}
use Rattle.fx_algebra.specs.BasicGraphPatterns.{parts_of, forced}
use Rattle.fx_algebra.specs.Sequences.{sorted_by}
use Rattle.fx_store.specs.Orders.{in_order, order_cmp, triples_of, IsWithin}
use Rattle.fx_store.specs.Lookups.{Known, known_of, has_parts}
use Rattle.fx_store.specs.declared.orders.Run.{Run}
use Rattle.fx_store.specs.declared.orders.Part.TheVariants.{Subject}
use Rattle.fx_store.proofs.FitLemmas.{fitting}
use Rattle.fx_store.proofs.CountLemmas.{run_count}
use Rattle.fx_store.proofs.RunLemmas.{in_place, sorted_in_place}
use Rattle.fx_store.proofs.evaluation.rows_with_parts.Goals as goal

-- what fits is what fits of those with the known parts
of_known : (row : Bindings) (p : Pattern) (graph : List Triple) (k : Known) → k ≡ known_of p row → filter_map (λ t. forced row (parts_of p t)) (filter (has_parts k) graph) ≡ filter_map (λ t. forced row (parts_of p t)) graph
of_known row p graph k e = ap (λ v. filter_map (λ t. forced row (parts_of p t)) (filter (has_parts v) graph)) e ∙ fitting row p graph

-- a run has as many triples as the graph has with the parts that the pattern has under the row
many : (run : Run) (row : Bindings) (p : Pattern) (graph : List Triple) (k : Known) → k ≡ known_of p row → IsWithin run graph → triples_of run graph ≡ filter (has_parts k) (in_order run.order graph) → run.end - run.start ≡ length (filter (has_parts (known_of p row)) graph)
many run row p graph k e w h = run_count run graph k w h ∙ ap (λ v. length (filter (has_parts v) graph)) e

pub returns-then-is_predicate_alone-clause-rows : goal.returns-then-is_predicate_alone-clause-rows
returns-then-is_predicate_alone-clause-rows g c =
    let graph = c.args.orders.now in
    let k = c.args.sought.now in
    let row = c.args.row.now in
    let p = c.args.pattern.now in
    subst (λ (v : List Bindings). IfOk c.rows_in_order.result (λ rows. rows.items ≡ v))
    (ap (λ v. filter_map (λ t. forced row (parts_of p t)) (sorted_by (order_cmp Subject) v)) (c.run-run.ensures.run ∙ ap (λ n. filter (has_parts k) (in_order n graph)) c.run-run.ensures.order)
    ∙ ap (filter_map (λ t. forced row (parts_of p t))) (sorted_in_place k graph c.known.ensures.rises (sym c.is_predicate_alone.ensures ∙ c.if-is_predicate_alone.true))
    ∙ of_known row p graph k c.requires)
    c.rows_in_order.ensures.rows

pub returns-then-is_predicate_alone-clause-steps : goal.returns-then-is_predicate_alone-clause-steps
returns-then-is_predicate_alone-clause-steps g c =
    let same = many c.run-run.result c.args.row.now c.args.pattern.now c.args.orders.now c.args.sought.now c.requires c.run-run.ensures.within c.run-run.ensures.run in
    omega (arith, same, c.run-run.ensures.steps, c.rows_in_order.ensures.steps)

pub returns-else-is_predicate_alone-clause-rows : goal.returns-else-is_predicate_alone-clause-rows
returns-else-is_predicate_alone-clause-rows g c =
    let graph = c.args.orders.now in
    let k = c.args.sought.now in
    let row = c.args.row.now in
    let p = c.args.pattern.now in
    subst (λ (v : List Bindings). IfOk c.rows_of_run.result (λ rows. rows.items ≡ v))
    (ap (filter_map (λ t. forced row (parts_of p t))) (c.run-run.ensures.run ∙ ap (λ n. filter (has_parts k) (in_order n graph)) c.run-run.ensures.order ∙ in_place k graph c.known.ensures.rises (sym c.is_predicate_alone.ensures ∙ c.if-is_predicate_alone.false))
    ∙ of_known row p graph k c.requires)
    c.rows_of_run.ensures.rows

pub returns-else-is_predicate_alone-clause-steps : goal.returns-else-is_predicate_alone-clause-steps
returns-else-is_predicate_alone-clause-steps g c =
    let same = many c.run-run.result c.args.row.now c.args.pattern.now c.args.orders.now c.args.sought.now c.requires c.run-run.ensures.within c.run-run.ensures.run in
    omega (arith, same, c.run-run.ensures.steps, c.rows_of_run.ensures.steps)
