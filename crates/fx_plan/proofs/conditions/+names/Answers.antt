use Rattle.std.proofs.Common.{◌≡◌, ◌∙◌, ap, sym, arith, ◌&&◌}
use Rattle.std.proofs.lemmas.Grind.{common_steps}
use Rattle.fx_plan.specs.Conditions.{has_names, have_names, signed_have_names}
use Rattle.fx_plan.proofs.ConditionLemmas.{has_or, has_and, has_product, has_call, has_compare, has_among, has_sum}
use Rattle.fx_plan.proofs.conditions.+names.Goals as goal

pub has_all-returns-in-Or : goal.has_all-returns-in-Or
has_all-returns-in-Or t c =
    let names = c.args.names.now in
    c.has_all_of.ensures ∙ ap (have_names names) c.as_slice.ensures ∙ sym (ap (has_names names) c.in-Or.is ∙ has_or names c.in-Or.parts)

pub has_all-returns-in-And : goal.has_all-returns-in-And
has_all-returns-in-And t c =
    let names = c.args.names.now in
    c.has_all_of-in-And.ensures ∙ ap (have_names names) c.as_slice-in-And.ensures ∙ sym (ap (has_names names) c.in-And.is ∙ has_and names c.in-And.parts)

pub has_all-returns-in-Product : goal.has_all-returns-in-Product
has_all-returns-in-Product t c =
    let names = c.args.names.now in
    c.has_all_of-in-Product.ensures ∙ ap (have_names names) c.as_slice-in-Product.ensures ∙ sym (ap (has_names names) c.in-Product.is ∙ has_product names c.in-Product.parts)

pub has_all-returns-in-Call : goal.has_all-returns-in-Call
has_all-returns-in-Call t c =
    let names = c.args.names.now in
    c.has_all_of-in-Call.ensures ∙ ap (have_names names) c.as_slice-in-Call.ensures ∙ sym (ap (has_names names) c.in-Call.is ∙ has_call names c.in-Call.function c.in-Call.args)

pub has_all-returns-then-has_all : goal.has_all-returns-then-has_all
has_all-returns-then-has_all t c =
    let e : has_names c.args.names.now c.args.expr.now ≡ (has_names c.args.names.now c.in-Compare.left && has_names c.args.names.now c.in-Compare.right) = ap (has_names c.args.names.now) c.in-Compare.is ∙ has_compare c.args.names.now c.in-Compare.op c.in-Compare.left c.in-Compare.right in
    grind (arith, common_steps, e)

pub has_all-returns-else-has_all : goal.has_all-returns-else-has_all
has_all-returns-else-has_all t c =
    let e : has_names c.args.names.now c.args.expr.now ≡ (has_names c.args.names.now c.in-Compare.left && has_names c.args.names.now c.in-Compare.right) = ap (has_names c.args.names.now) c.in-Compare.is ∙ has_compare c.args.names.now c.in-Compare.op c.in-Compare.left c.in-Compare.right in
    grind (arith, common_steps, e)

pub has_all-returns-then-has_all-2 : goal.has_all-returns-then-has_all-2
has_all-returns-then-has_all-2 t c =
    let e : has_names c.args.names.now c.args.expr.now ≡ (has_names c.args.names.now c.in-Among.item && have_names c.args.names.now c.in-Among.list) = ap (has_names c.args.names.now) c.in-Among.is ∙ has_among c.args.names.now c.in-Among.negated c.in-Among.item c.in-Among.list in
    grind (arith, common_steps, e)

pub has_all-returns-else-has_all-2 : goal.has_all-returns-else-has_all-2
has_all-returns-else-has_all-2 t c =
    let e : has_names c.args.names.now c.args.expr.now ≡ (has_names c.args.names.now c.in-Among.item && have_names c.args.names.now c.in-Among.list) = ap (has_names c.args.names.now) c.in-Among.is ∙ has_among c.args.names.now c.in-Among.negated c.in-Among.item c.in-Among.list in
    grind (arith, common_steps, e)

pub has_all-returns-then-has_all-3 : goal.has_all-returns-then-has_all-3
has_all-returns-then-has_all-3 t c =
    let e : has_names c.args.names.now c.args.expr.now ≡ (has_names c.args.names.now c.in-Sum.first && signed_have_names c.args.names.now c.in-Sum.rest) = ap (has_names c.args.names.now) c.in-Sum.is ∙ has_sum c.args.names.now c.in-Sum.first c.in-Sum.rest in
    grind (arith, common_steps, e)

pub has_all-returns-else-has_all-3 : goal.has_all-returns-else-has_all-3
has_all-returns-else-has_all-3 t c =
    let e : has_names c.args.names.now c.args.expr.now ≡ (has_names c.args.names.now c.in-Sum.first && signed_have_names c.args.names.now c.in-Sum.rest) = ap (has_names c.args.names.now) c.in-Sum.is ∙ has_sum c.args.names.now c.in-Sum.first c.in-Sum.rest in
    grind (arith, common_steps, e)
