use Rattle.std.proofs.Common.{◌∙◌, ◌≡◌, ap, arith, filter, List, Option}
use Rattle.std.specs.List.{filter_map}
use Rattle.fx_terms.specs.declared.triples.Triple.{Triple}
use Rattle.fx_algebra.specs.Answers.{has_rows}
use Rattle.fx_algebra.specs.BasicGraphPatterns.{parts_of, forced}
use Rattle.fx_algebra.specs.Solutions.{Bindings}
use Rattle.fx_store.specs.Orders.{in_order, triples_of}
use Rattle.fx_store.specs.Lookups.{Known, known_of, has_parts, order_for, tried, fits_under}
use Rattle.fx_store.proofs.FindLemmas.{fits_in_order}
use Rattle.fx_store.proofs.FitLemmas.{fitting}
use Rattle.fx_store.proofs.finding.some_fits_with_parts.Goals as goal

pub returns-clause-some : goal.returns-clause-some
returns-clause-some g c =
    let graph = c.args.orders.now in
    let row = c.args.row.now in
    let p = c.args.pattern.now in
    let order = c.run-found.result.order in
    let f : Triple → Option Bindings = λ t. forced row (parts_of p t) in
    c.some_fits_in.ensures.some
    ∙ ap (λ (ts : List Triple). has_rows (filter_map f ts)) (c.run-found.ensures.run ∙ ap (λ (k : Known). filter (has_parts k) (in_order order graph)) c.requires)
    ∙ ap has_rows (fitting row p (in_order order graph))
    ∙ fits_in_order f order graph

pub returns-clause-steps : goal.returns-clause-steps
returns-clause-steps g c =
    let graph = c.args.orders.now in
    let row = c.args.row.now in
    let p = c.args.pattern.now in
    let k = c.args.sought.now in
    let same : tried (fits_under p row) (triples_of c.run-found.result graph) ≡ tried (fits_under p row) (filter (has_parts (known_of p row)) (in_order (order_for (known_of p row)) graph)) =
    ap (tried (fits_under p row))
    (c.run-found.ensures.run
    ∙ ap (λ n. filter (has_parts k) (in_order n graph)) c.run-found.ensures.order
    ∙ ap (λ (known : Known). filter (has_parts known) (in_order (order_for known) graph)) c.requires) in
    omega (arith, same, c.run-found.ensures.steps, c.some_fits_in.ensures.steps)
