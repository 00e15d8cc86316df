-- Operators give the same rows from the same rows, however these arrived.
use Rattle.std.proofs.Common.{◌≡◌, ◌∙◌, ap, sym, subst, refl, Bool, true, not, ◌&&◌, cond, List, [], ◌∷◌, ◌++◌, map, filter, length, suc, arith, None, Some, IsPermutation}
use Rattle.std.specs.Prelude.{ℕ, ◌==◌, Option}
use Rattle.std.specs.List.{list_any}
use Rattle.std.proofs.lemmas.Bool.Decides.{nat_tests}
use Rattle.std.proofs.lemmas.List.Sorted.{IsPermutation-refl, IsPermutation-append, IsPermutation-map, list_any-IsPermutation}
use Rattle.fx_algebra.specs.Answers.{has_rows, with_inline}
use Rattle.fx_algebra.specs.Conditions.{holds}
use Rattle.fx_algebra.specs.Groups.{one_empty}
use Rattle.fx_algebra.specs.Operators.{join, filtered, diff, left_join, is_removed_by, stays, minus, extended, extend, inline_rows}
use Rattle.fx_algebra.specs.Solutions.{Bindings, agree, merge}
use Rattle.fx_algebra.specs.declared.expressions.Expr.{Expr}
use Rattle.fx_algebra.specs.declared.queries.Inline.{Inline}
use Rattle.fx_algebra.proofs.JoinLemmas.{same_join, same_rows_from}
use Rattle.fx_algebra.proofs.WeightLemmas.{weights_from, sum_by-filter}

same_as : (xs ys : List Bindings) → xs ≡ ys → IsPermutation xs ys
same_as xs ys e = subst (λ (v : List Bindings). IsPermutation xs v) e (IsPermutation-refl xs)

kept_moves : (p : Bindings → Bool) (xs ys : List Bindings) → IsPermutation xs ys → IsPermutation (filter p xs) (filter p ys)
kept_moves p xs ys h =
    same_rows_from (filter p xs) (filter p ys) (λ w. sum_by-filter w p xs ∙ weights_from xs ys h (λ x. cond (p x) (w x) 0) ∙ sym (sum_by-filter w p ys))

-- by another test that says the same
kept_by : (p q : Bindings → Bool) (xs ys : List Bindings) → ((a : Bindings) → p a ≡ q a) → IsPermutation xs ys → IsPermutation (filter p xs) (filter q ys)
kept_by p q xs ys same h = subst (λ (t : Bindings → Bool). IsPermutation (filter p xs) (filter t ys)) (λ i a. same a i) (kept_moves p xs ys h)

pub filtered_moves : (conditions : List Expr) (xs ys : List Bindings) → IsPermutation xs ys → IsPermutation (filtered conditions xs) (filtered conditions ys)
filtered_moves conditions xs ys h = kept_moves (holds conditions) xs ys h

pub extend_moves : (name : List ℕ) (e : Expr) (xs ys : List Bindings) → IsPermutation xs ys → IsPermutation (extend xs name e) (extend ys name e)
extend_moves name e xs ys h = IsPermutation-map (extended name e) xs ys h

pub minus_moves : (left others right more : List Bindings) → IsPermutation left others → IsPermutation right more → IsPermutation (minus left right) (minus others more)
unfolding stays
minus_moves left others right more h k =
    kept_by (λ a. not (list_any (is_removed_by a) right)) (λ a. not (list_any (is_removed_by a) more)) left others (λ a. ap not (list_any-IsPermutation (is_removed_by a) right more k)) h

pub left_join_moves : (left others right more : List Bindings) (conditions : List Expr) → IsPermutation left others → IsPermutation right more → IsPermutation (left_join left right conditions) (left_join others more conditions)
left_join_moves left others right more conditions h k =
    IsPermutation-append (filtered conditions (join left right)) (filtered conditions (join others more)) (diff left right conditions) (diff others more conditions)
    (filtered_moves conditions (join left right) (join others more) (same_join left others right more h k))
    (kept_by (λ a. not (list_any (λ b. agree a b && holds conditions (merge a b)) right)) (λ a. not (list_any (λ b. agree a b && holds conditions (merge a b)) more)) left others
    (λ a. ap not (list_any-IsPermutation (λ b. agree a b && holds conditions (merge a b)) right more k)) h)

pub with_inline_moves : (inline : Option Inline) (xs ys : List Bindings) → IsPermutation xs ys → IsPermutation (with_inline inline xs) (with_inline inline ys)
with_inline_moves None xs ys h = h
with_inline_moves (Some inline) xs ys h = same_join xs ys (inline_rows inline) (inline_rows inline) h (IsPermutation-refl (inline_rows inline))

has_any : (xs : List Bindings) → has_rows xs ≡ list_any (λ _. true) xs
has_any [] = refl
has_any (x ∷ xs) = refl

pub has_rows_moves : (xs ys : List Bindings) → IsPermutation xs ys → has_rows xs ≡ has_rows ys
has_rows_moves xs ys h = has_any xs ∙ list_any-IsPermutation (λ _. true) xs ys h ∙ sym (has_any ys)

-- ---- the one empty solution

agree_nothing : (a : Bindings) → agree a [] ≡ true
agree_nothing [] = refl
agree_nothing (e ∷ es) = agree_nothing es

pub join_one : (rows : List Bindings) → join rows one_empty ≡ rows
join_one [] = refl
join_one (a ∷ rows) = ap (λ b. map (merge a) (cond b ([] ∷ []) []) ++ join rows one_empty) (agree_nothing a) ∙ ap (λ v. a ∷ v) (join_one rows)

-- no filter removes no row
pub filtered_by_none : (rows : List Bindings) → filtered [] rows ≡ rows
unfolding holds
filtered_by_none [] = refl
filtered_by_none (a ∷ rows) = ap (λ v. a ∷ v) (filtered_by_none rows)

not_none : (n : ℕ) → true ≡ (suc n == 0) → ⊥
not_none n h = grind (arith, nat_tests)

pub filtered_by_empty : (filters : List Expr) (rows : List Bindings) → true ≡ (length filters == 0) → rows ≡ filtered filters rows
filtered_by_empty [] rows h = sym (filtered_by_none rows)
filtered_by_empty (e ∷ es) rows h = absurd (not_none (length es) h)
