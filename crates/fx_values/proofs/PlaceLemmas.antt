-- A set that keeps the order of insertion says how many names stand before one.
use Rattle.std.proofs.Common.{◌≡◌, ◌∙◌, ap, refl, ℕ, suc, ◌+◌, Bool, true, false, not, cond, List, [], ◌∷◌, length, Some, None, unwrap_or, arith}
use Rattle.std.specs.Prelude.{nat_lt, position}
use Rattle.std.specs.List.{position_or_len}
use Rattle.std.proofs.lemmas.Bool.Decides.{nat_tests}
use Rattle.std.proofs.lemmas.List.Sums.{prefix_len-le-length}
use Rattle.std.specs.declared.cmp.Ordering.{Ordering}
use Rattle.std.specs.declared.cmp.Ordering.TheVariants.{Less, Equal, Greater}
use Rattle.std.specs.Ordering.{is_eq, eq_by_cmp, ordering_reverse}
use Rattle.fx_terms.specs.Texts.{text_cmp, texts_total}
use Rattle.fx_values.specs.Values.{place_of}

tied_back : (o : Ordering) → is_eq (ordering_reverse o) ≡ is_eq o
tied_back Less = refl
tied_back Equal = refl
tied_back Greater = refl

same_test : (a b : List ℕ) → eq_by_cmp text_cmp a b ≡ is_eq (text_cmp b a)
same_test a b = ap is_eq (texts_total.antisymm a b) ∙ tied_back (text_cmp b a)

counted : (names : List (List ℕ)) (name : List ℕ) → position_or_len (eq_by_cmp text_cmp name) names ≡ place_of names name
counted [] name = refl
counted (n ∷ ns) name = by (is_eq (text_cmp n name)) refl (counted ns name)
  where
    by : (b : Bool) → is_eq (text_cmp n name) ≡ b → position_or_len (eq_by_cmp text_cmp name) ns ≡ place_of ns name
        → cond (not (eq_by_cmp text_cmp name n)) (1 + position_or_len (eq_by_cmp text_cmp name) ns) 0 ≡ cond b 0 (suc (place_of ns name))
    by true e k = ap (λ (b : Bool). cond (not b) (1 + position_or_len (eq_by_cmp text_cmp name) ns) 0) (same_test name n ∙ e)
    by false e k = ap (λ (b : Bool). cond (not b) (1 + position_or_len (eq_by_cmp text_cmp name) ns) 0) (same_test name n ∙ e) ∙ omega (arith, k)

pub place_is : (names : List (List ℕ)) (name : List ℕ) → unwrap_or (position (eq_by_cmp text_cmp name) names) (length names) ≡ place_of names name
place_is names name = by (nat_lt (position_or_len (eq_by_cmp text_cmp name) names) (length names)) refl ∙ counted names name
  where
    by : (b : Bool) → nat_lt (position_or_len (eq_by_cmp text_cmp name) names) (length names) ≡ b
        → unwrap_or (cond b (Some (position_or_len (eq_by_cmp text_cmp name) names)) None) (length names) ≡ position_or_len (eq_by_cmp text_cmp name) names
    by true e = refl
    by false e =
        let within = prefix_len-le-length (λ n. not (eq_by_cmp text_cmp name n)) names in
        grind (arith, nat_tests)
