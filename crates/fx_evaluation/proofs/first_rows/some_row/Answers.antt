use Rattle.std.proofs.Common.{rules, ◌∙◌, ap, List, IsPermutation}
use Rattle.fx_terms.specs.declared.patterns.Pattern.{Pattern}
use Rattle.fx_algebra.specs.Solutions.{Bindings}
use Rattle.fx_evaluation.proofs.FirstRowLemmas.{from_start, leads}
use Rattle.fx_evaluation.proofs.first_rows.some_row.Goals as goal

pub returns : goal.returns
returns c =
    let graph = c.args.store.now in
    let conditions = c.args.conditions.now in
    let ordered = c.in-Some.ordered.items in
    let order : IsPermutation c.args.patterns.items ordered = search rules in
    from_start graph conditions c.args.patterns.items ordered c.in_ok-rows.rows.items c.in_ok-truth-in-Some.truth c.known.ensures.rises (rw c.as_slice-2.ensures.value at c.known_to_rise.ensures)
    (rw c.as_slice.ensures.value at c.in_ok-rows.ensures) order
    (c.in_ok-truth-in-Some.ensures
    ∙ ap (λ (rows : List Bindings). leads graph conditions c.as_slice-in-Some-2.result.now rows) c.as_slice-in-Some.ensures.value
    ∙ ap (λ (ps : List Pattern). leads graph conditions ps c.in_ok-rows.rows.items) c.as_slice-in-Some-2.ensures.value)
