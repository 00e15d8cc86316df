use Rattle.std.proofs.Common.{refl, ◌∙◌, ap}
use Rattle.std.proofs.lemmas.Cmp.{eq_by_cmp_equiv}
use Rattle.std.proofs.lemmas.Map.Views.{tells_apart}
use Rattle.std.proofs.lemmas.List.Filters.{dedup_is}
use Rattle.std.proofs.lemmas.List.Kept.{Contains-dedup, Contains-from_dedup, IsStrictlySortedBy-dedup}
use Rattle.std.proofs.lemmas.List.Sorted.{Contains-permutation, IsPermutation-sym}
use Rattle.fx_terms.specs.Graphs.{set_of}
use Rattle.fx_terms.proofs.SetLemmas.{set_is}
use Rattle.fx_founds.specs.FoundOrder.{found_cmp, founds_total}
use Rattle.fx_founds.proofs.FoundLemmas.{all_added, exact_founds}
use Rattle.fx_founds.proofs.uniting.each_once.Goals as goal

pub returns : goal.returns
returns c =
    let is = dedup_is _ _ _ c.dedup.ensures.filtered in
    let moved = c.in_ok-sort.ensures.permutation in
    set_is found_cmp founds_total exact_founds c.loop-list.founds.items c.dedup.new.self.items
    (rw is (IsStrictlySortedBy-dedup founds_total (λ x y. refl) _ c.in_ok-sort.ensures.sorted))
    (λ t. (
      λ h. Contains-permutation _ _ t (IsPermutation-sym _ _ moved) (Contains-from_dedup _ _ t (rw is at h)),
      λ h. rw is (Contains-dedup (eq_by_cmp_equiv founds_total) (tells_apart exact_founds) _ t (Contains-permutation _ _ t moved h)),
    ))
    ∙ ap (set_of found_cmp) (all_added c.loop-list.founds.items c.loop-list.list-index c.args.lists.now c.loop-list-test.false c.loop-list.invariant)
