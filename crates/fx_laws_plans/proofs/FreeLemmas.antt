-- The variables that are free.
use Rattle.std.proofs.Common.{◌≡◌, ◌≢◌, ◌∙◌, ap, sym, refl, ℕ, Bool, true, false, not, ◌||◌, if◌then◌else◌, List, [], ◌∷◌, ◌++◌, ◌⊎◌, inl, inr, fold}
use Rattle.std.specs.Ordering.{is_eq}
use Rattle.std.proofs.lemmas.List.Kept.{AllPairs-filter}
use Rattle.std.proofs.lemmas.Cmp.{tied_itself}
use Rattle.fx_terms.specs.Texts.{text_cmp, texts_total}
use Rattle.fx_terms.proofs.SetLemmas.{Among, among_from, contains_from}
use Rattle.fx_algebra.proofs.MemberLemmas.{IsOnce, once_append, pairs_differ}
use Rattle.fx_algebra.specs.BasicGraphPatterns.{variables}
use Rattle.fx_algebra.specs.Scopes.{is_among, once, with_name}
use Rattle.fx_plan.specs.Plans.{free_names}
use Rattle.fx_plan.proofs.NameLemmas.{among_once, text_from}
use Rattle.fx_laws_plans.specs.Rules.{FreeNamesAreFree}
use Rattle.fx_laws_plans.proofs.EachLemmas.{among_filter, among_kept}

-- ---- a name among names is one of them

or_cases : (a b : Bool) → (a || b) ≡ true → (a ≡ true) ⊎ (b ≡ true)
or_cases true b e = inl refl
or_cases false b e = inr e

or_right : (a : Bool) → (a || true) ≡ true
or_right true = refl
or_right false = refl

tied : (name : List ℕ) → is_eq (text_cmp name name) ≡ true
tied name = ap is_eq (tied_itself texts_total name)

pub one_of : (names : List (List ℕ)) (name : List ℕ) → is_among names name ≡ true → Among name names
one_of [] name e = absurd (cc)
one_of (n ∷ ns) name e = by (one_of ns name) (or_cases (is_eq (text_cmp n name)) (is_among ns name) e)
  where
    by : (is_among ns name ≡ true → Among name ns) → (is_eq (text_cmp n name) ≡ true) ⊎ (is_among ns name ≡ true) → Among name (n ∷ ns)
    by rest (inl h) = inl (text_from (text_cmp n name) n name refl h)
    by rest (inr h) = inr (rest h)

pub is_one : (names : List (List ℕ)) (name : List ℕ) → Among name names → is_among names name ≡ true
is_one [] name m = absurd m
is_one (n ∷ ns) name (inl e) = ap (λ (v : List ℕ). is_eq (text_cmp v name) || is_among ns name) e ∙ ap (λ (b : Bool). b || is_among ns name) (tied name)
is_one (n ∷ ns) name (inr m) = ap (λ (b : Bool). is_eq (text_cmp n name) || b) (is_one ns name m) ∙ or_right (is_eq (text_cmp n name))

-- ---- each once

with_once : (names : List (List ℕ)) (name : List ℕ) → IsOnce names → IsOnce (with_name names name)
unfolding with_name
with_once names name h = by (is_among names name) refl
  where
    by : (b : Bool) → is_among names name ≡ b → IsOnce (if b then names else names ++ (name ∷ []))
    by true e = h
    by false e = once_append names (name ∷ []) h ((λ m. m), tt) apart
      where
        apart : (x : List ℕ) → Among x names → Among x (name ∷ []) → ⊥
        apart x m (inl f) = let g : is_among names x ≡ true = is_one names x m in let k : is_among names name ≡ is_among names x = ap (is_among names) f in absurd (cc)
        apart x m (inr n) = n

fold_once : (names more : List (List ℕ)) → IsOnce names → IsOnce (fold with_name names more)
fold_once names [] h = h
fold_once names (m ∷ ms) h = fold_once (with_name names m) ms (with_once names m h)

not_true : (b : Bool) → (b ≡ true → ⊥) → not b ≡ true
not_true true h = absurd (h refl)
not_true false h = refl

is_not : (b : Bool) → not b ≡ true → b ≡ true → ⊥
is_not true e f = absurd (cc)
is_not false e f = absurd (cc)

pub free_names_are_free : FreeNamesAreFree
free_names_are_free known ps = record {
  once = AllPairs-filter ◌≢◌ (λ name. not (is_among known name)) (once (variables ps)) (pairs_differ (once (variables ps)) (fold_once [] (variables ps) tt));
  free = λ name. (
    λ c.
        let k = among_kept (λ n. not (is_among known n)) name (once (variables ps)) (among_from (free_names known ps) name c) in (
          contains_from (variables ps) name (one_of (variables ps) name (sym (among_once (variables ps) name) ∙ is_one (once (variables ps)) name k.0)),
          λ d. is_not (is_among known name) k.1 (is_one known name (among_from known name d)),
        ),
    λ c. contains_from (free_names known ps) name
        (among_filter (λ n. not (is_among known n)) name (once (variables ps))
        (one_of (once (variables ps)) name (among_once (variables ps) name ∙ is_one (variables ps) name (among_from (variables ps) name c.0)))
        (not_true (is_among known name) (λ e. c.1 (contains_from known name (one_of known name e))))),
  );
}
