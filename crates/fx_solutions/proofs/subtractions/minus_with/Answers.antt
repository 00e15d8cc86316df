use Rattle.std.proofs.Common.{◌≡◌, ◌∙◌, true, List, ap, sym}
use Rattle.std.specs.List.{list_all}
use Rattle.std.proofs.lemmas.Result.{IfOk-weaker}
use Rattle.fx_algebra.specs.Solutions.{Bindings}
use Rattle.fx_solutions.specs.Joins.{is_shared, kept}
use Rattle.fx_solutions.proofs.LeftJoinLemmas.{kept_minus}
use Rattle.fx_solutions.proofs.subtractions.minus_with.Goals as goal

pub returns : goal.returns
returns c =
    let left = c.args.left.items in
    let right = c.args.right.items in
    let names = c.in_ok-shared.shared.items in
    let index = c.in_ok-index.index.items in
    let shared : list_all (is_shared left right) names ≡ true =
    ap (λ (l : List Bindings). list_all (is_shared l right) names) (sym c.as_slice.ensures.value) ∙ ap (λ (r : List Bindings). list_all (is_shared c.as_slice.result.now r) names) (sym c.as_slice-2.ensures.value) ∙ c.in_ok-shared.ensures in
    IfOk-weaker c.keep.result _ _
    (λ rows e. e ∙ ap (λ (i : List Bindings). kept c.as_slice-5.result.now i left) c.as_slice-4.ensures.value ∙ ap (λ (n : _). kept n index left) c.as_slice-5.ensures.value ∙ kept_minus left right index names shared c.in_ok-index.ensures.same)
    c.keep.ensures
