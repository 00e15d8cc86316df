use Rattle.std.proofs.Common.{arith, sym, ap, ◌∙◌, refl, ◌∷◌, []}
use Rattle.std.proofs.lemmas.Result.{err_from_is_err_and}
use Rattle.fx_grammar.specs.declared.kinds.Kind.TheVariants as k
use Rattle.fx_algebra.specs.declared.expressions.Expr.TheVariants as expr
use Rattle.fx_algebra.specs.declared.expressions.Sign.TheVariants as sign
use Rattle.fx_grammar.specs.Rule.{one}
use Rattle.fx_grammar.specs.Kinds.{is}
use Rattle.fx_grammar.specs.Grammar.{expression, disjunction, conjunction, product, factor, signed_literal, signed_of, one_or}
use Rattle.fx_grammar.proofs.GrammarLaws.{law_expression, law_factor, law_addend, addend_takes, law_relation, law_conjunction}
use Rattle.fx_readers.proofs.Loops.{hands_on, chain_is, chain_made, chain_made_refused, chain_turn, chain_fails, chain_ends, chain_smaller, headed_made, headed_refused, any_turn, any_fails, any_ends, any_smaller, no_front, nested_none, nested_more}
use Rattle.fx_expressions.proofs.ExpressionLaws.{primary_parens, primary_call, primary_named, primary_variable, primary_last}
use Rattle.fx_expressions.proofs.expressions.+expressions.Goals as goal

pub expression-returns-then-depth-eq0 : goal.expression-returns-then-depth-eq0
unfolding expression
expression-returns-then-depth-eq0 t c =
    rw (nested_none (disjunction c.args.prefixes.now) c.args.depth c.args.tokens.now c.if-depth-eq0.true) (rw c.refuse.ensures refl)

pub expression-returns : goal.expression-returns
unfolding expression
expression-returns t c =
    rw (nested_more (disjunction c.args.prefixes.now) c.args.depth c.args.tokens.now (omega arith)) c.disjunction.ensures

pub some_list-returns : goal.some_list-returns
some_list-returns t c =
    rw (chain_is k.Comma (expression c.args.prefixes.now c.args.depth) c.args.tokens.now c.in_ok-first.rest.now c.in_ok-first.first c.in_ok-parts.parts c.in_ok-first.ensures c.in_ok-parts.ensures) c.list_more.ensures

pub list_more-returns-in_err-next : goal.list_more-returns-in_err-next
list_more-returns-in_err-next t c =
    let p = err_from_is_err_and c.from_residual-in_err-next.result c.from_residual-in_err-next.ensures.1 in
    rw (p.1, p.2, ← c.more.invariant)
    (hands_on _ _ _ c.in_err-next.ensures (λ r e. chain_fails k.Comma _ (law_expression c.args.prefixes.now c.args.depth) c.more.parts c.more.rest.now c.in_ok-after.after.now r (sym c.sees.ensures ∙ c.more-test.true) c.in_ok-after.ensures e))

pub list_more-more-smaller : goal.list_more-more-smaller
list_more-more-smaller t c = chain_smaller k.Comma _ (law_expression c.args.prefixes.now c.args.depth) c.more.rest.now c.in_ok-after.after.now c.in_ok-next.after.now c.in_ok-next.next c.in_ok-after.ensures c.in_ok-next.ensures

pub list_more-more-preserved : goal.list_more-more-preserved
list_more-more-preserved t c =
    rw c.in_ok-add_part.ensures
    (chain_turn k.Comma _ (law_expression c.args.prefixes.now c.args.depth) c.more.parts c.more.rest.now c.in_ok-after.after.now c.in_ok-next.after.now c.in_ok-next.next (sym c.sees.ensures ∙ c.more-test.true) c.in_ok-after.ensures c.in_ok-next.ensures ∙ c.more.invariant)

pub list_more-returns : goal.list_more-returns
list_more-returns t c =
    sym c.more.invariant ∙ chain_ends k.Comma _ (law_expression c.args.prefixes.now c.args.depth) c.more.parts c.more.rest.now (sym c.sees.ensures ∙ c.more-test.false)

pub product_more-returns-in_err-next : goal.product_more-returns-in_err-next
product_more-returns-in_err-next t c =
    let p = err_from_is_err_and c.from_residual-in_err-next.result c.from_residual-in_err-next.ensures.1 in
    rw (p.1, p.2, ← c.more.invariant)
    (hands_on _ _ _ c.in_err-next.ensures (λ r e. chain_fails k.Star _ (law_factor c.args.prefixes.now c.args.depth) c.more.parts c.more.rest.now c.in_ok-after.after.now r (sym c.sees.ensures ∙ c.more-test.true) c.in_ok-after.ensures e))

pub product_more-more-smaller : goal.product_more-more-smaller
product_more-more-smaller t c = chain_smaller k.Star _ (law_factor c.args.prefixes.now c.args.depth) c.more.rest.now c.in_ok-after.after.now c.in_ok-next.after.now c.in_ok-next.next c.in_ok-after.ensures c.in_ok-next.ensures

pub product_more-more-preserved : goal.product_more-more-preserved
product_more-more-preserved t c =
    rw c.in_ok-add_part.ensures
    (chain_turn k.Star _ (law_factor c.args.prefixes.now c.args.depth) c.more.parts c.more.rest.now c.in_ok-after.after.now c.in_ok-next.after.now c.in_ok-next.next (sym c.sees.ensures ∙ c.more-test.true) c.in_ok-after.ensures c.in_ok-next.ensures ∙ c.more.invariant)

pub product_more-returns : goal.product_more-returns
product_more-returns t c =
    sym c.more.invariant ∙ chain_ends k.Star _ (law_factor c.args.prefixes.now c.args.depth) c.more.parts c.more.rest.now (sym c.sees.ensures ∙ c.more-test.false)

pub and_more-returns-in_err-next : goal.and_more-returns-in_err-next
and_more-returns-in_err-next t c =
    let p = err_from_is_err_and c.from_residual-in_err-next.result c.from_residual-in_err-next.ensures.1 in
    rw (p.1, p.2, ← c.more.invariant)
    (hands_on _ _ _ c.in_err-next.ensures (λ r e. chain_fails k.AndAnd _ (law_relation c.args.prefixes.now c.args.depth) c.more.parts c.more.rest.now c.in_ok-after.after.now r (sym c.sees.ensures ∙ c.more-test.true) c.in_ok-after.ensures e))

pub and_more-more-smaller : goal.and_more-more-smaller
and_more-more-smaller t c = chain_smaller k.AndAnd _ (law_relation c.args.prefixes.now c.args.depth) c.more.rest.now c.in_ok-after.after.now c.in_ok-next.after.now c.in_ok-next.next c.in_ok-after.ensures c.in_ok-next.ensures

pub and_more-more-preserved : goal.and_more-more-preserved
and_more-more-preserved t c =
    rw c.in_ok-add_part.ensures
    (chain_turn k.AndAnd _ (law_relation c.args.prefixes.now c.args.depth) c.more.parts c.more.rest.now c.in_ok-after.after.now c.in_ok-next.after.now c.in_ok-next.next (sym c.sees.ensures ∙ c.more-test.true) c.in_ok-after.ensures c.in_ok-next.ensures ∙ c.more.invariant)

pub and_more-returns : goal.and_more-returns
and_more-returns t c =
    sym c.more.invariant ∙ chain_ends k.AndAnd _ (law_relation c.args.prefixes.now c.args.depth) c.more.parts c.more.rest.now (sym c.sees.ensures ∙ c.more-test.false)

pub or_more-returns-in_err-next : goal.or_more-returns-in_err-next
or_more-returns-in_err-next t c =
    let p = err_from_is_err_and c.from_residual-in_err-next.result c.from_residual-in_err-next.ensures.1 in
    rw (p.1, p.2, ← c.more.invariant)
    (hands_on _ _ _ c.in_err-next.ensures (λ r e. chain_fails k.OrOr _ (law_conjunction c.args.prefixes.now c.args.depth) c.more.parts c.more.rest.now c.in_ok-after.after.now r (sym c.sees.ensures ∙ c.more-test.true) c.in_ok-after.ensures e))

pub or_more-more-smaller : goal.or_more-more-smaller
or_more-more-smaller t c = chain_smaller k.OrOr _ (law_conjunction c.args.prefixes.now c.args.depth) c.more.rest.now c.in_ok-after.after.now c.in_ok-next.after.now c.in_ok-next.next c.in_ok-after.ensures c.in_ok-next.ensures

pub or_more-more-preserved : goal.or_more-more-preserved
or_more-more-preserved t c =
    rw c.in_ok-add_part.ensures
    (chain_turn k.OrOr _ (law_conjunction c.args.prefixes.now c.args.depth) c.more.parts c.more.rest.now c.in_ok-after.after.now c.in_ok-next.after.now c.in_ok-next.next (sym c.sees.ensures ∙ c.more-test.true) c.in_ok-after.ensures c.in_ok-next.ensures ∙ c.more.invariant)

pub or_more-returns : goal.or_more-returns
or_more-returns t c =
    sym c.more.invariant ∙ chain_ends k.OrOr _ (law_conjunction c.args.prefixes.now c.args.depth) c.more.parts c.more.rest.now (sym c.sees.ensures ∙ c.more-test.false)

pub product-returns-in_err-parts-2 : goal.product-returns-in_err-parts-2
unfolding product
product-returns-in_err-parts-2 t c =
    let p = err_from_is_err_and c.from_residual-in_err-parts-2.result c.from_residual-in_err-parts-2.ensures.1 in
    rw (p.1, p.2) (hands_on _ _ _ c.in_err-parts-2.ensures (λ r e. chain_made_refused k.Star _ (one_or expr.Product) c.args.tokens.now c.in_ok-first.rest.now c.in_ok-first.first _ r c.in_ok-first.ensures c.in_ok-parts.ensures e))

pub product-returns : goal.product-returns
unfolding product
product-returns t c =
    chain_made k.Star _ (one_or expr.Product) c.args.tokens.now c.in_ok-first.rest.now _ c.in_ok-first.first _ _ _ c.in_ok-first.ensures c.in_ok-parts.ensures c.in_ok-parts-2.ensures c.in_ok-product.ensures

pub conjunction-returns-in_err-parts-2 : goal.conjunction-returns-in_err-parts-2
unfolding conjunction
conjunction-returns-in_err-parts-2 t c =
    let p = err_from_is_err_and c.from_residual-in_err-parts-2.result c.from_residual-in_err-parts-2.ensures.1 in
    rw (p.1, p.2) (hands_on _ _ _ c.in_err-parts-2.ensures (λ r e. chain_made_refused k.AndAnd _ (one_or expr.And) c.args.tokens.now c.in_ok-first.rest.now c.in_ok-first.first _ r c.in_ok-first.ensures c.in_ok-parts.ensures e))

pub conjunction-returns : goal.conjunction-returns
unfolding conjunction
conjunction-returns t c =
    chain_made k.AndAnd _ (one_or expr.And) c.args.tokens.now c.in_ok-first.rest.now _ c.in_ok-first.first _ _ _ c.in_ok-first.ensures c.in_ok-parts.ensures c.in_ok-parts-2.ensures c.in_ok-conjunction.ensures

pub disjunction-returns-in_err-parts-2 : goal.disjunction-returns-in_err-parts-2
unfolding disjunction
disjunction-returns-in_err-parts-2 t c =
    let p = err_from_is_err_and c.from_residual-in_err-parts-2.result c.from_residual-in_err-parts-2.ensures.1 in
    rw (p.1, p.2) (hands_on _ _ _ c.in_err-parts-2.ensures (λ r e. chain_made_refused k.OrOr _ (one_or expr.Or) c.args.tokens.now c.in_ok-first.rest.now c.in_ok-first.first _ r c.in_ok-first.ensures c.in_ok-parts.ensures e))

pub disjunction-returns : goal.disjunction-returns
unfolding disjunction
disjunction-returns t c =
    chain_made k.OrOr _ (one_or expr.Or) c.args.tokens.now c.in_ok-first.rest.now _ c.in_ok-first.first _ _ _ c.in_ok-first.ensures c.in_ok-parts.ensures c.in_ok-parts-2.ensures c.in_ok-disjunction.ensures

pub signed_literal-returns-in_err-parts-2 : goal.signed_literal-returns-in_err-parts-2
unfolding signed_literal
signed_literal-returns-in_err-parts-2 t c =
    let p = err_from_is_err_and c.from_residual-in_err-parts-2.result c.from_residual-in_err-parts-2.ensures.1 in
    rw (p.1, p.2) (hands_on _ _ _ c.in_err-parts-2.ensures (λ r e. headed_refused k.Star (factor c.args.prefixes.now (expression c.args.prefixes.now c.args.depth)) (one (is k.Signed) signed_of) expr.Constant (λ parts. (sign.Plus, one_or expr.Product parts)) c.args.tokens.now c.in_ok-term.rest.now c.in_ok-term.term _ r c.in_ok-term.ensures (c.in_ok-parts.ensures ∙ ap (λ e. e ∷ []) c.in_ok-first.ensures) e))

pub signed_literal-returns : goal.signed_literal-returns
unfolding signed_literal
signed_literal-returns t c =
    headed_made k.Star (factor c.args.prefixes.now (expression c.args.prefixes.now c.args.depth)) (one (is k.Signed) signed_of) expr.Constant (λ parts. (sign.Plus, one_or expr.Product parts)) c.args.tokens.now c.in_ok-term.rest.now _ c.in_ok-term.term _ _ _ c.in_ok-term.ensures (c.in_ok-parts.ensures ∙ ap (λ e. e ∷ []) c.in_ok-first.ensures) c.in_ok-parts-2.ensures (ap (λ e. (sign.Plus, e)) c.in_ok-product.ensures)

pub addends-returns-in_err-sign : goal.addends-returns-in_err-sign
addends-returns-in_err-sign t c =
    let p = err_from_is_err_and c.from_residual.result c.from_residual.ensures.1 in
    rw (p.1, p.2, ← c.more.invariant)
    (hands_on _ _ _ c.in_err-sign.ensures (λ r e. any_fails _ (law_addend c.args.prefixes.now c.args.depth) (addend_takes c.args.prefixes.now c.args.depth) c.more.parts c.more.rest.now r (sym (c.sees_addend.ensures c.args.prefixes.now c.args.depth) ∙ c.more-test.true) e))

pub addends-more-smaller : goal.addends-more-smaller
addends-more-smaller t c = any_smaller _ (law_addend c.args.prefixes.now c.args.depth) (addend_takes c.args.prefixes.now c.args.depth) c.more.rest.now c.in_ok-sign.after.now _ c.in_ok-sign.ensures

pub addends-more-preserved : goal.addends-more-preserved
addends-more-preserved t c =
    rw c.in_ok-add_signed.ensures
    (any_turn _ (law_addend c.args.prefixes.now c.args.depth) (addend_takes c.args.prefixes.now c.args.depth) c.more.parts c.more.rest.now c.in_ok-sign.after.now _ (sym (c.sees_addend.ensures c.args.prefixes.now c.args.depth) ∙ c.more-test.true) c.in_ok-sign.ensures ∙ c.more.invariant)

pub addends-more-init : goal.addends-more-init
addends-more-init t c = rw c.new-parts.ensures (no_front _)

pub addends-returns : goal.addends-returns
addends-returns t c =
    sym c.more.invariant ∙ any_ends _ (law_addend c.args.prefixes.now c.args.depth) (addend_takes c.args.prefixes.now c.args.depth) c.more.parts c.more.rest.now (sym (c.sees_addend.ensures c.args.prefixes.now c.args.depth) ∙ c.more-test.false)

pub primary-returns-then-sees : goal.primary-returns-then-sees
primary-returns-then-sees t c =
    rw (primary_parens c.args.prefixes.now (expression c.args.prefixes.now c.args.depth) c.args.tokens.now (sym c.sees.ensures ∙ c.if-sees.true)) c.parens.ensures

pub primary-returns-then-sees_iri_name : goal.primary-returns-then-sees_iri_name
primary-returns-then-sees_iri_name t c =
    rw (primary_named c.args.prefixes.now (expression c.args.prefixes.now c.args.depth) c.args.tokens.now (sym c.sees.ensures ∙ c.if-sees.false) (sym (c.sees_call.ensures c.args.prefixes.now c.args.depth) ∙ c.if-sees_call.false)
    (sym c.sees_iri_name.ensures ∙ c.if-sees_iri_name.true))
    c.primary_iri.ensures

pub primary-returns-then-sees-2 : goal.primary-returns-then-sees-2
primary-returns-then-sees-2 t c =
    rw (primary_variable c.args.prefixes.now (expression c.args.prefixes.now c.args.depth) c.args.tokens.now (sym c.sees.ensures ∙ c.if-sees.false) (sym (c.sees_call.ensures c.args.prefixes.now c.args.depth) ∙ c.if-sees_call.false)
    (sym c.sees_iri_name.ensures ∙ c.if-sees_iri_name.false) (sym c.sees-2.ensures ∙ c.if-sees-2.true))
    c.variable_expression.ensures

pub primary-returns-then-sees_call : goal.primary-returns-then-sees_call
primary-returns-then-sees_call t c =
    rw (primary_call c.args.prefixes.now (expression c.args.prefixes.now c.args.depth) c.args.tokens.now (sym c.sees.ensures ∙ c.if-sees.false) (sym (c.sees_call.ensures c.args.prefixes.now c.args.depth) ∙ c.if-sees_call.true))
    c.call.ensures

pub primary-returns : goal.primary-returns
primary-returns t c =
    rw (primary_last c.args.prefixes.now (expression c.args.prefixes.now c.args.depth) c.args.tokens.now (sym c.sees.ensures ∙ c.if-sees.false) (sym (c.sees_call.ensures c.args.prefixes.now c.args.depth) ∙ c.if-sees_call.false)
    (sym c.sees_iri_name.ensures ∙ c.if-sees_iri_name.false) (sym c.sees-2.ensures ∙ c.if-sees-2.false))
    c.primary_literal.ensures
