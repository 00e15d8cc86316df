use Rattle.std.proofs.Common.{◌∙◌}
use Rattle.std.specs.Prelude.{◌+ℤ◌, ◌-ℤ◌}
use Rattle.std.specs.Int.{w64}
use Rattle.std.proofs.lemmas.Int.{to_z-of_z}
use Rattle.fx_algebra.specs.Worths.{if_in_range}
use Rattle.fx_expr.proofs.NumberLemmas.{checked, on_numbers}
use Rattle.fx_expr.proofs.values.added.Goals as goal

pub returns-in-Plus : goal.returns-in-Plus
returns-in-Plus c =
    rw c.in-Plus.is (checked _ c.checked_add.result c.checked_add.ensures
    ∙ on_numbers (λ m n. if_in_range (m +ℤ n)) (to_z-of_z w64 c.args.left c.ranges.left) (to_z-of_z w64 c.args.right c.ranges.right))

pub returns-in-Minus : goal.returns-in-Minus
returns-in-Minus c =
    rw c.in-Minus.is (checked _ c.checked_sub.result c.checked_sub.ensures
    ∙ on_numbers (λ m n. if_in_range (m -ℤ n)) (to_z-of_z w64 c.args.left c.ranges.left) (to_z-of_z w64 c.args.right c.ranges.right))
