use Rattle.std.proofs.Common.{◌∙◌, ap, Option, ℤ}
use Rattle.std.specs.Str.Parse.{signed_digits_value}
use Rattle.fx_algebra.specs.Worths.{is_up_to}
use Rattle.fx_expr.proofs.integers.is_up_to.Goals as goal

pub returns-in-Some : goal.returns-in-Some
returns-in-Some c = c.is_at_most.ensures ∙ ap (λ (o : Option ℤ). is_up_to o (signed_digits_value 10 c.args.form.now)) c.in-Some.ensures.value

pub returns-in-None : goal.returns-in-None
returns-in-None c = ap (λ (o : Option ℤ). is_up_to o (signed_digits_value 10 c.args.form.now)) c.in-None.ensures.value
