use Rattle.std.proofs.Common.{◌∙◌, ap, sym}
use Rattle.fx_walks.specs.LeftRows.{with_found}
use Rattle.fx_walks.proofs.LeftRowLemmas.{kept_more, kept_none, kept_refused}
use Rattle.fx_walks.proofs.optionals.found_for.Goals as goal

pub loop-row-init : goal.loop-row-init
loop-row-init c = c.in_ok-rows.ensures ∙ kept_none c.args.conditions.now 0 c.args.left.items

pub loop-row-preserved-in-Continue-branch-3 : goal.loop-row-preserved-in-Continue-branch-3
loop-row-preserved-in-Continue-branch-3 c =
    let row = c.in-Some.row in
    c.in_ok-put.ensures
    ∙ ap (with_found row.solution row.origin) c.loop-row.invariant
    ∙ kept_more c.args.conditions.now c.loop-row.yielded row c.args.left.items (sym c.in_ok-holds.ensures ∙ c.if-branch.true)

pub loop-row-preserved : goal.loop-row-preserved
loop-row-preserved c =
    c.loop-row.invariant ∙ sym (kept_refused c.args.conditions.now c.loop-row.yielded c.in-Some.row 0 c.args.left.items (sym c.in_ok-holds.ensures ∙ c.if-branch.false))
