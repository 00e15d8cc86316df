use Rattle.std.proofs.Common.{◌≡◌, ◌∙◌, ap, sym, subst}
use Rattle.std.specs.Str.Parse.{digits_value, without_leading_sign}
use Rattle.fx_expr.specs.Digits.{IsPlain, without_zeros}
use Rattle.fx_expr.proofs.DigitLemmas.{zeros_value, zeros_plain}
use Rattle.fx_expr.proofs.NumberLemmas.{form_digits}
use Rattle.fx_expr.proofs.integers.magnitude.Goals as goal

pub returns : goal.returns
returns c =
    let digits = without_leading_sign c.args.form.now in
    let same : c.without_zeros.result.now ≡ without_zeros digits = cc in record {
      value = ap (digits_value 10) same ∙ zeros_value digits;
      plain = subst IsPlain (sym same) (zeros_plain digits (form_digits c.args.form.now c.requires));
    }
