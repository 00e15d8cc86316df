use Rattle.std.proofs.Common.{◌≡◌, ◌∙◌, ap, sym, not, filter, List, [], ◌∷◌, ◌++◌}
use Rattle.fx_algebra.specs.Units.{is_covered}
use Rattle.fx_algebra.specs.declared.expressions.Expr.{Expr}
use Rattle.fx_plan.specs.Plans.{with_filters}
use Rattle.fx_plan.proofs.ShareLemmas.{left_after, left_snoc, shared_snoc}
use Rattle.fx_plan.proofs.shares.shared.Goals as goal

pub loop-unit-preserved : goal.loop-unit-preserved
loop-unit-preserved c =
    let es = c.args.filters.items in
    let us = c.loop-unit.yielded in
    let u = c.in-Some.unit in
    let own : c.in_ok-unit.unit ≡ with_filters u (filter (is_covered u.patterns) (left_after es us)) =
    c.in_ok-unit.ensures.own ∙ ap (λ (v : List Expr). with_filters u (filter (is_covered u.patterns) v)) c.loop-unit.invariant.left in
    record {
      with = c.in_ok-push.ensures.items ∙ (λ i. c.loop-unit.invariant.with i ++ own i ∷ []) ∙ sym (shared_snoc es us u);
      left = c.in_ok-unit.ensures.others ∙ ap (λ (v : List Expr). filter (λ (e : Expr). not (is_covered u.patterns e)) v) c.loop-unit.invariant.left ∙ sym (left_snoc es us u);
    }
