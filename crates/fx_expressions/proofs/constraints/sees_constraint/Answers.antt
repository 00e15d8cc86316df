use Rattle.std.proofs.Common.{sym, ◌∙◌, refl}
use Rattle.fx_expressions.proofs.ExpressionLaws.{constraint_sees}
use Rattle.fx_expressions.proofs.constraints.sees_constraint.Goals as goal

pub returns-then-sees : goal.returns-then-sees
returns-then-sees c = λ ps. rw (constraint_sees ps c.args.tokens.now, sym c.sees.ensures ∙ c.if-sees.true) refl

pub returns-then-sees_whole_call : goal.returns-then-sees_whole_call
returns-then-sees_whole_call c = λ ps. rw (constraint_sees ps c.args.tokens.now, sym c.sees.ensures ∙ c.if-sees.false, sym (c.sees_whole_call.ensures ps) ∙ c.if-sees_whole_call.true) refl

pub returns : goal.returns
returns c = λ ps. rw (constraint_sees ps c.args.tokens.now, sym c.sees.ensures ∙ c.if-sees.false, sym (c.sees_whole_call.ensures ps) ∙ c.if-sees_whole_call.false) c.sees_iri_name.ensures
