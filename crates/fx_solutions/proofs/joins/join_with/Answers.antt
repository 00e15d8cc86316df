use Rattle.std.proofs.Common.{◌≡◌, ◌∙◌, true, List, ap, subst, sym, IsPermutation}
use Rattle.std.specs.List.{list_all}
use Rattle.std.proofs.lemmas.Result.{IfOk-weaker}
use Rattle.fx_algebra.specs.Solutions.{Bindings}
use Rattle.fx_algebra.specs.Operators.{join}
use Rattle.fx_solutions.specs.Joins.{is_shared, merged}
use Rattle.fx_solutions.proofs.JoinLemmas.{joined_with_empty, merged_join}
use Rattle.fx_solutions.proofs.joins.join_with.Goals as goal

pub returns-then-is_one_empty : goal.returns-then-is_one_empty
returns-then-is_one_empty c = joined_with_empty c.args.left.now c.args.right.items (sym c.if-is_one_empty.ensures) (rw c.as_slice.ensures.value at c.known_to_rise.ensures)

pub returns : goal.returns
returns c =
    let left = c.args.left.now in
    let right = c.args.right.items in
    let names = c.in_ok-shared.shared.items in
    let index = c.in_ok-index.index.items in
    let shared : list_all (is_shared left right) names ≡ true = ap (λ (r : List Bindings). list_all (is_shared left r) names) (sym c.as_slice-2.ensures.value) ∙ c.in_ok-shared.ensures in
    IfOk-weaker c.merge_all.result _ _
    (λ rows e. subst (λ (v : List Bindings). IsPermutation (join left right) v) (sym (e ∙ ap (λ (i : List Bindings). merged c.as_slice-5.result.now i left) c.as_slice-4.ensures.value ∙ ap (λ (n : _). merged n index left) c.as_slice-5.ensures.value)) (merged_join left right index names shared c.in_ok-index.ensures.same))
    c.merge_all.ensures
