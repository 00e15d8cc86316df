-- A set that keeps the order of insertion holds and takes names as a scope does.
use Rattle.std.proofs.Common.{◌≡◌, ◌∙◌, ap, refl, ◌||◌, if◌then◌else◌, ℕ, List, [], ◌∷◌, ◌++◌}
use Rattle.std.specs.List.{list_any}
use Rattle.std.specs.declared.cmp.Ordering.{Ordering}
use Rattle.std.specs.declared.cmp.Ordering.TheVariants.{Less, Equal, Greater}
use Rattle.std.specs.Ordering.{is_eq, eq_by_cmp, ordering_reverse}
use Rattle.indexmap.specs.IndexSet.{insert_key}
use Rattle.fx_terms.specs.Texts.{text_cmp, texts_total}
use Rattle.fx_algebra.specs.Scopes.{is_among, with_name}

tied_back : (o : Ordering) → is_eq (ordering_reverse o) ≡ is_eq o
tied_back Less = refl
tied_back Equal = refl
tied_back Greater = refl

same_test : (a b : List ℕ) → eq_by_cmp text_cmp a b ≡ is_eq (text_cmp b a)
same_test a b = ap is_eq (texts_total.antisymm a b) ∙ tied_back (text_cmp b a)

pub any_is : (names : List (List ℕ)) (name : List ℕ) → list_any (eq_by_cmp text_cmp name) names ≡ is_among names name
any_is [] name = refl
any_is (n ∷ ns) name = λ i. same_test name n i || any_is ns name i

pub insert_is : (names : List (List ℕ)) (name : List ℕ) → insert_key (eq_by_cmp text_cmp) names name ≡ with_name names name
unfolding with_name
insert_is names name = ap (λ b. if b then names else names ++ name ∷ []) (any_is names name)
