use Rattle.std.proofs.Common.{sym, ◌∙◌, refl}
use Rattle.fx_expressions.proofs.ExpressionLaws.{condition_sees}
use Rattle.fx_syntax.proofs.orders.sees_condition.Goals as goal

pub returns-then-sees : goal.returns-then-sees
returns-then-sees c = λ ps. rw (condition_sees ps c.args.tokens.now, sym c.sees.ensures ∙ c.if-sees.true) refl

pub returns-then-sees-2 : goal.returns-then-sees-2
returns-then-sees-2 c = λ ps. rw (condition_sees ps c.args.tokens.now, sym c.sees.ensures ∙ c.if-sees.false, sym c.sees-2.ensures ∙ c.if-sees-2.true) refl

pub returns-then-sees-3 : goal.returns-then-sees-3
returns-then-sees-3 c = λ ps. rw (condition_sees ps c.args.tokens.now, sym c.sees.ensures ∙ c.if-sees.false, sym c.sees-2.ensures ∙ c.if-sees-2.false, sym c.sees-3.ensures ∙ c.if-sees-3.true) refl

pub returns : goal.returns
returns c = λ ps. rw (condition_sees ps c.args.tokens.now, sym c.sees.ensures ∙ c.if-sees.false, sym c.sees-2.ensures ∙ c.if-sees-2.false, sym c.sees-3.ensures ∙ c.if-sees-3.false) (c.sees_constraint.ensures ps)
