use Rattle.std.proofs.Common.{◌∙◌}
use Rattle.std.specs.Prelude.{◌*ℤ◌}
use Rattle.std.specs.Int.{w64}
use Rattle.std.proofs.lemmas.Int.{to_z-of_z}
use Rattle.fx_algebra.specs.Worths.{if_in_range}
use Rattle.fx_expr.proofs.NumberLemmas.{checked, on_numbers}
use Rattle.fx_expr.proofs.values.multiplied.Goals as goal

pub returns : goal.returns
returns c =
    checked _ c.checked_mul.result c.checked_mul.ensures
    ∙ on_numbers (λ m n. if_in_range (m *ℤ n)) (to_z-of_z w64 c.args.left c.ranges.left) (to_z-of_z w64 c.args.right c.ranges.right)
