use Rattle.std.proofs.Common.{◌≡◌, ◌∙◌, ap, sym, arith, ◌&&◌}
use Rattle.std.proofs.lemmas.Grind.{common_steps}
use Rattle.fx_evaluation.specs.Conditions.{binds, binds_all, binds_signed}
use Rattle.fx_evaluation.proofs.ConditionLemmas.{has_or, has_and, has_product, has_call, has_compare, has_among, has_sum}
use Rattle.fx_evaluation.proofs.conditions.+names.Goals as goal

pub binds-returns-in-Or : goal.binds-returns-in-Or
binds-returns-in-Or t c =
    let row = c.args.row.now in
    c.binds_all.ensures ∙ ap (binds_all row) c.as_slice.ensures ∙ sym (ap (binds row) c.in-Or.is ∙ has_or row c.in-Or.parts)

pub binds-returns-in-And : goal.binds-returns-in-And
binds-returns-in-And t c =
    let row = c.args.row.now in
    c.binds_all-in-And.ensures ∙ ap (binds_all row) c.as_slice-in-And.ensures ∙ sym (ap (binds row) c.in-And.is ∙ has_and row c.in-And.parts)

pub binds-returns-in-Product : goal.binds-returns-in-Product
binds-returns-in-Product t c =
    let row = c.args.row.now in
    c.binds_all-in-Product.ensures ∙ ap (binds_all row) c.as_slice-in-Product.ensures ∙ sym (ap (binds row) c.in-Product.is ∙ has_product row c.in-Product.parts)

pub binds-returns-in-Call : goal.binds-returns-in-Call
binds-returns-in-Call t c =
    let row = c.args.row.now in
    c.binds_all-in-Call.ensures ∙ ap (binds_all row) c.as_slice-in-Call.ensures ∙ sym (ap (binds row) c.in-Call.is ∙ has_call row c.in-Call.function c.in-Call.args)

pub binds-returns-then-binds : goal.binds-returns-then-binds
binds-returns-then-binds t c =
    let e : binds c.args.row.now c.args.expr.now ≡ (binds c.args.row.now c.in-Compare.left && binds c.args.row.now c.in-Compare.right) = ap (binds c.args.row.now) c.in-Compare.is ∙ has_compare c.args.row.now c.in-Compare.op c.in-Compare.left c.in-Compare.right in
    grind (arith, common_steps, e)

pub binds-returns-else-binds : goal.binds-returns-else-binds
binds-returns-else-binds t c =
    let e : binds c.args.row.now c.args.expr.now ≡ (binds c.args.row.now c.in-Compare.left && binds c.args.row.now c.in-Compare.right) = ap (binds c.args.row.now) c.in-Compare.is ∙ has_compare c.args.row.now c.in-Compare.op c.in-Compare.left c.in-Compare.right in
    grind (arith, common_steps, e)

pub binds-returns-then-binds-2 : goal.binds-returns-then-binds-2
binds-returns-then-binds-2 t c =
    let e : binds c.args.row.now c.args.expr.now ≡ (binds c.args.row.now c.in-Among.item && binds_all c.args.row.now c.in-Among.list) = ap (binds c.args.row.now) c.in-Among.is ∙ has_among c.args.row.now c.in-Among.negated c.in-Among.item c.in-Among.list in
    grind (arith, common_steps, e)

pub binds-returns-else-binds-2 : goal.binds-returns-else-binds-2
binds-returns-else-binds-2 t c =
    let e : binds c.args.row.now c.args.expr.now ≡ (binds c.args.row.now c.in-Among.item && binds_all c.args.row.now c.in-Among.list) = ap (binds c.args.row.now) c.in-Among.is ∙ has_among c.args.row.now c.in-Among.negated c.in-Among.item c.in-Among.list in
    grind (arith, common_steps, e)

pub binds-returns-then-binds-3 : goal.binds-returns-then-binds-3
binds-returns-then-binds-3 t c =
    let e : binds c.args.row.now c.args.expr.now ≡ (binds c.args.row.now c.in-Sum.first && binds_signed c.args.row.now c.in-Sum.rest) = ap (binds c.args.row.now) c.in-Sum.is ∙ has_sum c.args.row.now c.in-Sum.first c.in-Sum.rest in
    grind (arith, common_steps, e)

pub binds-returns-else-binds-3 : goal.binds-returns-else-binds-3
binds-returns-else-binds-3 t c =
    let e : binds c.args.row.now c.args.expr.now ≡ (binds c.args.row.now c.in-Sum.first && binds_signed c.args.row.now c.in-Sum.rest) = ap (binds c.args.row.now) c.in-Sum.is ∙ has_sum c.args.row.now c.in-Sum.first c.in-Sum.rest in
    grind (arith, common_steps, e)
