use Rattle.std.proofs.Common.{rules, ◌≡◌, ◌∙◌, ◌∷◌, [], ap, sym, List}
use Rattle.fx_terms.specs.declared.patterns.Pattern.{Pattern}
use Rattle.fx_evaluation.proofs.FirstRowLemmas.{at_end, leads, leads_behind, leads_last, passed, reached}
use Rattle.fx_evaluation.proofs.first_rows.+depths.Goals as goal

pub has_row-returns-then-branch : goal.has_row-returns-then-branch
has_row-returns-then-branch t c =
    let graph = c.args.store.now in
    let conditions = c.args.conditions.now in
    let row = c.row-item.result in
    let whole : c.args.left.now ≡ c.in-Some.first.now ∷ c.in-Some.rest.now = search rules in
    reached graph conditions c.args.left.now c.args.rows.now c.loop-row.row-index row c.loop-row-test.true c.row-item.is c.loop-row.invariant
    (sym c.if-branch.true ∙ c.in_ok-leads_to_row.ensures ∙ ap (λ (ps : List Pattern). leads graph conditions ps (row ∷ [])) (sym whole))

pub has_row-loop-row-preserved : goal.has_row-loop-row-preserved
has_row-loop-row-preserved t c =
    let graph = c.args.store.now in
    let conditions = c.args.conditions.now in
    let row = c.row-item.result in
    let whole : c.args.left.now ≡ c.in-Some.first.now ∷ c.in-Some.rest.now = search rules in
    passed graph conditions c.args.left.now c.args.rows.now c.loop-row.row-index row c.loop-row-test.true c.row-item.is c.loop-row.invariant
    (sym c.if-branch.false ∙ c.in_ok-leads_to_row.ensures ∙ ap (λ (ps : List Pattern). leads graph conditions ps (row ∷ [])) (sym whole))

pub has_row-returns : goal.has_row-returns
has_row-returns t c = at_end c.args.store.now c.args.conditions.now c.args.left.now c.args.rows.now c.loop-row.row-index c.loop-row-test.false c.loop-row.invariant

pub leads_to_row-returns-then-is_empty-2 : goal.leads_to_row-returns-then-is_empty-2
leads_to_row-returns-then-is_empty-2 t c =
    leads_last c.args.store.now c.args.conditions.now c.args.rest.now c.args.first.now c.args.row.now c.some_fits.result c.if-is_empty.ensures c.if-is_empty-2.ensures c.some_fits.ensures.fitting

pub leads_to_row-returns : goal.leads_to_row-returns
leads_to_row-returns t c =
    leads_behind c.args.store.now c.args.conditions.now c.args.rest.now c.in_ok-more.more.items _ c.in_ok-found.found (rw c.as_slice.ensures.value at c.known_to_rise.ensures) c.in_ok-more.ensures.rise c.in_ok-more.ensures.fewer
    (c.in_ok-found.ensures ∙ ap (leads c.args.store.now c.args.conditions.now c.args.rest.now) c.as_slice-2.ensures.value)
