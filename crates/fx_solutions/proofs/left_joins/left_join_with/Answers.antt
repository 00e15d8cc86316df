use Rattle.std.proofs.Common.{◌≡◌, ◌∙◌, true, List, ap, subst, sym, IsPermutation}
use Rattle.std.specs.List.{list_all}
use Rattle.std.proofs.lemmas.Result.{IfOk-weaker}
use Rattle.fx_algebra.specs.Solutions.{Bindings}
use Rattle.fx_solutions.specs.Joins.{is_shared, matched}
use Rattle.fx_algebra.specs.Operators.{left_join}
use Rattle.fx_solutions.proofs.LeftJoinLemmas.{matched_left_join}
use Rattle.fx_solutions.proofs.left_joins.left_join_with.Goals as goal

pub returns : goal.returns
returns c =
    let left = c.args.left.items in
    let right = c.args.right.items in
    let conditions = c.args.conditions.now in
    let names = c.in_ok-shared.shared.items in
    let index = c.in_ok-index.index.items in
    let shared : list_all (is_shared left right) names ≡ true =
    ap (λ (l : List Bindings). list_all (is_shared l right) names) (sym c.as_slice.ensures.value) ∙ ap (λ (r : List Bindings). list_all (is_shared c.as_slice.result.now r) names) (sym c.as_slice-2.ensures.value) ∙ c.in_ok-shared.ensures in
    IfOk-weaker c.match_all.result _ _
    (λ rows e. subst (λ (v : List Bindings). IsPermutation (left_join left right conditions) v) (sym (e ∙ ap (λ (i : List Bindings). matched conditions c.as_slice-5.result.now i left) c.as_slice-4.ensures.value ∙ ap (λ (n : _). matched conditions n index left) c.as_slice-5.ensures.value)) (matched_left_join conditions left right index names shared c.in_ok-index.ensures.same))
    c.match_all.ensures
