use Rattle.std.proofs.Common.{sym, ◌∙◌, refl}
use Rattle.fx_expressions.proofs.ExpressionLaws.{constraint_parens, constraint_call, constraint_named, constraint_other}
use Rattle.fx_expressions.proofs.constraints.constraint.Goals as goal

pub returns-then-sees : goal.returns-then-sees
returns-then-sees c = rw (constraint_parens c.args.prefixes.now c.args.tokens.now (sym c.sees.ensures ∙ c.if-sees.true)) c.whole_parens.ensures

pub returns-then-sees_whole_call : goal.returns-then-sees_whole_call
returns-then-sees_whole_call c =
    rw (constraint_call c.args.prefixes.now c.args.tokens.now (sym c.sees.ensures ∙ c.if-sees.false) (sym (c.sees_whole_call.ensures c.args.prefixes.now) ∙ c.if-sees_whole_call.true)) c.whole_call.ensures

pub returns-then-sees_iri_name : goal.returns-then-sees_iri_name
returns-then-sees_iri_name c =
    rw (constraint_named c.args.prefixes.now c.args.tokens.now (sym c.sees.ensures ∙ c.if-sees.false) (sym (c.sees_whole_call.ensures c.args.prefixes.now) ∙ c.if-sees_whole_call.false) (sym c.sees_iri_name.ensures ∙ c.if-sees_iri_name.true))
    (rw c.refuse.ensures refl)

pub returns : goal.returns
returns c =
    rw (constraint_other c.args.prefixes.now c.args.tokens.now (sym c.sees.ensures ∙ c.if-sees.false) (sym (c.sees_whole_call.ensures c.args.prefixes.now) ∙ c.if-sees_whole_call.false) (sym c.sees_iri_name.ensures ∙ c.if-sees_iri_name.false))
    (rw c.refuse-2.ensures refl)
