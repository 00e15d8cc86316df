-- Members that are put by rising name stand in that order.
use Rattle.std.proofs.Common.{◌≡◌, ◌∙◌, ap, refl, ℕ, Bool, true, ◌&&◌, List, [], ◌∷◌, ◌++◌}
use Rattle.std.specs.declared.cmp.Ordering.{Ordering}
use Rattle.std.specs.declared.cmp.Ordering.TheVariants.{Less, Equal, Greater}
use Rattle.std.specs.Ordering.{is_lt, is_gt, ordering_reverse, match_ordering}
use Rattle.std.specs.List.{list_all}
use Rattle.std.proofs.lemmas.Cmp.{nat_list_cmp_total}
use Rattle.serde_json.specs.Data.{member, put}
use Rattle.fx_terms.specs.Texts.{text_cmp}
use Rattle.fx_terms.specs.declared.terms.Term.{Term}
use Rattle.fx_algebra.specs.Solutions.{Bindings}
use Rattle.fx_results.specs.Documents.{term_data, row_members}

-- each name lies below another
abbrev pub all_below : List ℕ → Bindings → Bool
all_below name row = list_all (λ e. is_gt (text_cmp name e.0)) row

is_gt-turned : (o : Ordering) → is_lt o ≡ true → is_gt (ordering_reverse o) ≡ true
is_gt-turned Less h = refl
is_gt-turned Equal h = cc
is_gt-turned Greater h = cc

pub is_gt-text_cmp : (a b : List ℕ) → is_lt (text_cmp a b) ≡ true → is_gt (text_cmp b a) ≡ true
is_gt-text_cmp a b h = ap is_gt (nat_list_cmp_total.antisymm b a) ∙ is_gt-turned (text_cmp a b) h

-- a name above all goes to the end
pub put-row_members : (e : List ℕ × Term) (row : Bindings) → all_below e.0 row ≡ true → put e.0 (term_data e.1) (row_members row) ≡ row_members (row ++ e ∷ [])
put-row_members e [] h = refl
put-row_members e (f ∷ fs) h =
    elim (text_cmp e.0 f.0) as (λ o. (is_gt o && all_below e.0 fs) ≡ true → match_ordering o (member e.0 (term_data e.1) (row_members (f ∷ fs))) (member f.0 (term_data e.1) (row_members fs)) (member f.0 (term_data f.1) (put e.0 (term_data e.1) (row_members fs))) ≡ row_members (f ∷ (fs ++ e ∷ []))) [
      | Less ↦ λ g. cc
      | Equal ↦ λ g. cc
      | Greater ↦ λ g. ap (member f.0 (term_data f.1)) (put-row_members e fs g)
    ] h
