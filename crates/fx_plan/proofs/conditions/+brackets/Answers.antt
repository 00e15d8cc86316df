use Rattle.std.proofs.Common.{◌≡◌, ◌∙◌, ap, arith, ℕ, ◌&&◌}
use Rattle.std.specs.Prelude.{nat_le}
use Rattle.std.proofs.lemmas.Grind.{common_steps}
use Rattle.fx_algebra.specs.Measures.{measured, placed}
use Rattle.fx_algebra.specs.declared.expressions.Expr.{Expr}
use Rattle.fx_plan.specs.Conditions.{most_of_signed}
use Rattle.fx_plan.proofs.ConditionLemmas.{le_max, nest_sum}
use Rattle.fx_plan.proofs.conditions.+brackets.Goals as goal

pub fits-returns-then-fits_in_place-3 : goal.fits-returns-then-fits_in_place-3
fits-returns-then-fits_in_place-3 t c =
    let front = placed 4 (measured c.in-Sum.first) in
    let back = most_of_signed c.in-Sum.rest in
    let e : nat_le (measured c.args.expr.now).nest c.args.room ≡ (nat_le front c.args.room && nat_le back c.args.room) =
    ap (λ (x : Expr). nat_le (measured x).nest c.args.room) c.in-Sum.is ∙ ap (λ (n : ℕ). nat_le n c.args.room) (nest_sum c.in-Sum.first c.in-Sum.rest) ∙ le_max front back c.args.room in
    grind (arith, common_steps, e)
