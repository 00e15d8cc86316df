-- Where a new pair goes.
use Rattle.std.proofs.Common.{is_some, filter, T, true, false, Bool, ◌≡◌, ℕ, List, [], ◌∷◌, ◌≤◌, suc, length, refl, ap, arith, Some, None, cond}
use Rattle.std.specs.List.{insert}
use Rattle.std.specs.declared.cmp.Ordering.TheVariants.{Less, Equal, Greater}
use Rattle.std.specs.Ordering.{is_eq, is_lt}
use Rattle.std.specs.FinMap.Entries.{by_order, is_sorted-put, is_sorted-where_key}
use Rattle.std.proofs.lemmas.Cmp.{nat_list_cmp_total}
use Rattle.fx_terms.specs.Texts.{text_cmp}
use Rattle.fx_terms.specs.declared.terms.Term.{Term}
use Rattle.fx_algebra.specs.Solutions.{Bindings, term_of, with_pair, with_new, merge, place_in, rises}

pub place_le : (es : Bindings) (n : List ℕ) → place_in es n ≤ length es
place_le [] n = omega arith
place_le (e ∷ es) n = grind (arith, place_le es n)

-- a pair goes to its place
pub put_at : (es : Bindings) (n : List ℕ) (t : Term) → term_of es n ≡ None → with_pair es n t ≡ insert es (place_in es n) (n, t)
put_at [] n t h = refl
put_at (e ∷ es) n t h =
    elim (text_cmp n e.0) as (λ o. cond (is_eq o) (Some e.1) (term_of es n) ≡ None → by_order o ((n, t) ∷ e ∷ es) ((e.0, t) ∷ es) (e ∷ with_pair es n t) ≡ insert (e ∷ es) (cond (is_lt o) 0 (suc (place_in es n))) (n, t)) [
      | Less ↦ λ g. refl
      | Equal ↦ λ g. cc
      | Greater ↦ λ g. ap (λ rest. e ∷ rest) (put_at es n t g)
    ] h

true_from : (b : Bool) → T b → b ≡ true
true_from true h = refl
true_from false h = absurd h

to_T : (b : Bool) → b ≡ true → T b
to_T true h = tt
to_T false h = cc

pub rises_with : (es : Bindings) (n : List ℕ) (t : Term) → rises es ≡ true → rises (with_pair es n t) ≡ true
rises_with es n t h = true_from _ (is_sorted-put text_cmp nat_list_cmp_total n t es (to_T (rises es) h))

pub rises_kept : (p : List ℕ → Bool) (es : Bindings) → rises es ≡ true → rises (filter (λ e. p e.0) es) ≡ true
rises_kept p es h = true_from _ (is_sorted-where_key text_cmp p es (to_T (rises es) h))

pub rises_new : (es : Bindings) (e : List ℕ × Term) → rises es ≡ true → rises (with_new es e) ≡ true
rises_new es e h = elim (is_some (term_of es e.0)) as (λ b. rises (cond b es (with_pair es e.0 e.1)) ≡ true) [ true ↦ h | false ↦ rises_with es e.0 e.1 h ]

pub rises_merge : (a b : Bindings) → rises a ≡ true → rises (merge a b) ≡ true
rises_merge a [] h = h
rises_merge a (e ∷ es) h = rises_merge (with_new a e) es (rises_new a e h)
