use Rattle.std.proofs.Common.{◌≡◌, ◌∙◌, ap, sym, arith, ◌||◌}
use Rattle.std.proofs.lemmas.Grind.{common_steps}
use Rattle.fx_algebra.specs.Units.{calls_bound, is_bound}
use Rattle.fx_plan.specs.Conditions.{call_bound, signed_call_bound}
use Rattle.fx_plan.proofs.ConditionLemmas.{bound_or, bound_and, bound_product, bound_call, bound_among, bound_sum}
use Rattle.fx_plan.proofs.conditions.+bound.Goals as goal

pub calls_bound-returns-in-Or : goal.calls_bound-returns-in-Or
calls_bound-returns-in-Or t c = c.call_bound.ensures ∙ ap call_bound c.as_slice.ensures ∙ sym (ap calls_bound c.in-Or.is ∙ bound_or c.in-Or.parts)

pub calls_bound-returns-in-And : goal.calls_bound-returns-in-And
calls_bound-returns-in-And t c = c.call_bound-in-And.ensures ∙ ap call_bound c.as_slice-in-And.ensures ∙ sym (ap calls_bound c.in-And.is ∙ bound_and c.in-And.parts)

pub calls_bound-returns-in-Product : goal.calls_bound-returns-in-Product
calls_bound-returns-in-Product t c = c.call_bound-in-Product.ensures ∙ ap call_bound c.as_slice-in-Product.ensures ∙ sym (ap calls_bound c.in-Product.is ∙ bound_product c.in-Product.parts)

pub calls_bound-returns-else-calls_bound-2 : goal.calls_bound-returns-else-calls_bound-2
calls_bound-returns-else-calls_bound-2 t c =
    let e : calls_bound c.args.expr.now ≡ (calls_bound c.in-Among.item || call_bound c.in-Among.list) = ap calls_bound c.in-Among.is ∙ bound_among c.in-Among.negated c.in-Among.item c.in-Among.list in
    grind (arith, common_steps, e)

pub calls_bound-returns-else-calls_bound-3 : goal.calls_bound-returns-else-calls_bound-3
calls_bound-returns-else-calls_bound-3 t c =
    let e : calls_bound c.args.expr.now ≡ (calls_bound c.in-Sum.first || signed_call_bound c.in-Sum.rest) = ap calls_bound c.in-Sum.is ∙ bound_sum c.in-Sum.first c.in-Sum.rest in
    grind (arith, common_steps, e)

pub calls_bound-returns-else-is_bound : goal.calls_bound-returns-else-is_bound
calls_bound-returns-else-is_bound t c =
    let e : calls_bound c.args.expr.now ≡ (is_bound c.in-Call.function || call_bound c.in-Call.args) = ap calls_bound c.in-Call.is ∙ bound_call c.in-Call.function c.in-Call.args in
    grind (arith, common_steps, e)
