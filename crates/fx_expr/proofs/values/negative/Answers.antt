use Rattle.std.proofs.Common.{◌∙◌, ap, ℤ}
use Rattle.std.specs.Prelude.{neg_ℤ}
use Rattle.std.specs.Int.{w64}
use Rattle.std.proofs.lemmas.Int.{to_z-of_z}
use Rattle.fx_algebra.specs.Worths.{if_in_range}
use Rattle.fx_expr.proofs.NumberLemmas.{checked}
use Rattle.fx_expr.proofs.values.negative.Goals as goal

pub returns : goal.returns
returns c =
    checked _ c.checked_neg.result c.checked_neg.ensures
    ∙ ap (λ (n : ℤ). if_in_range (neg_ℤ n)) (to_z-of_z w64 c.args.number c.ranges.number)
