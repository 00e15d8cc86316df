-- A filter whose variables a row binds goes with the row through a join.
use Rattle.std.proofs.Common.{◌≡◌, ◌∙◌, ap, sym, refl, ℕ, Bool, true, false, ◌&&◌, cond, List, [], ◌∷◌, ◌++◌, map, filter, Option, Some, None, is_some}
use Rattle.std.specs.List.{AllByRecursion, list_all}
use Rattle.std.proofs.lemmas.List.Elements.{filter-append}
use Rattle.fx_terms.specs.declared.patterns.Pattern.{Pattern}
use Rattle.fx_terms.specs.declared.terms.Term.{Term}
use Rattle.fx_algebra.specs.BasicGraphPatterns.{variables}
use Rattle.fx_algebra.specs.Conditions.{holds}
use Rattle.fx_algebra.specs.Operators.{filtered, join, merges}
use Rattle.fx_algebra.specs.Scopes.{is_among}
use Rattle.fx_algebra.specs.Solutions.{Bindings, agree, merge, term_of}
use Rattle.fx_algebra.specs.Units.{expr_names, is_covered}
use Rattle.fx_algebra.specs.declared.expressions.Expr.{Expr}
use Rattle.fx_algebra.proofs.JoinLemmas.{merge_extends_left}
use Rattle.fx_steps.proofs.ValueLemmas.{AreBoundAlike, holds_alike}

-- a solution binds each variable of patterns
abbrev pub Binds : List Pattern → Bindings → Type 0
Binds ps s = (name : List ℕ) → is_among (variables ps) name ≡ true → is_some (term_of s name) ≡ true

both_true : (b c : Bool) → (b && c) ≡ true → (b ≡ true) × (c ≡ true)
both_true true c e = (refl, e)
both_true false c e = cc

kept_term : (a b : Bindings) (name : List ℕ) (o : Option Term) → term_of a name ≡ o → is_some o ≡ true → term_of a name ≡ term_of (merge a b) name
kept_term a b name None e h = absurd (cc)
kept_term a b name (Some t) e h = e ∙ sym ((merge_extends_left a b).has name t e)

names_kept : (ps : List Pattern) (a b : Bindings) → Binds ps a → (names : List (List ℕ)) → list_all (is_among (variables ps)) names ≡ true → AreBoundAlike a (merge a b) names
names_kept ps a b h [] c = tt
names_kept ps a b h (name ∷ names) c =
    let t = both_true (is_among (variables ps) name) (list_all (is_among (variables ps)) names) c in
    (kept_term a b name (term_of a name) refl (h name t.0), names_kept ps a b h names t.1)

all_kept : (ps : List Pattern) (a b : Bindings) → Binds ps a → (es : List Expr) → AllByRecursion (λ e. is_covered ps e ≡ true) es → AllByRecursion (λ e. AreBoundAlike a (merge a b) (expr_names e)) es
all_kept ps a b h [] c = tt
all_kept ps a b h (e ∷ es) c = (names_kept ps a b h (expr_names e) c.0, all_kept ps a b h es c.1)

-- they hold of what a row merges to exactly where they hold of the row
holds_merged : (ps : List Pattern) (a b : Bindings) → Binds ps a → (es : List Expr) → AllByRecursion (λ e. is_covered ps e ≡ true) es → holds es a ≡ holds es (merge a b)
holds_merged ps a b h es c = holds_alike a (merge a b) es (all_kept ps a b h es c)

either_one : (b : Bool) (rows : List Bindings) → rows ≡ cond b rows rows
either_one true rows = refl
either_one false rows = refl

module _ (ps : List Pattern) (es : List Expr) (covered : AllByRecursion (λ e. is_covered ps e ≡ true) es) where
  filtered_merged : (a : Bindings) → Binds ps a → (xs : List Bindings) → filter (holds es) (map (merge a) xs) ≡ cond (holds es a) (map (merge a) xs) []
  filtered_merged a h [] = either_one (holds es a) []
  filtered_merged a h (x ∷ xs) =
      ap (λ (b : Bool). cond b (merge a x ∷ filter (holds es) (map (merge a) xs)) (filter (holds es) (map (merge a) xs))) (sym (holds_merged ps a x h es covered))
      ∙ by (holds es a) (filtered_merged a h xs)
    where
      by : (b : Bool) → filter (holds es) (map (merge a) xs) ≡ cond b (map (merge a) xs) []
          → cond b (merge a x ∷ filter (holds es) (map (merge a) xs)) (filter (holds es) (map (merge a) xs)) ≡ cond b (merge a x ∷ map (merge a) xs) []
      by true rest = ap (λ (v : List Bindings). merge a x ∷ v) rest
      by false rest = rest

  pub filtered_join : (others rows : List Bindings) → AllByRecursion (Binds ps) rows → filtered es (join rows others) ≡ join (filtered es rows) others
  filtered_join others [] h = refl
  filtered_join others (a ∷ rows) h =
      filter-append (holds es) (merges others a) (join rows others)
      ∙ ap (λ (v : List Bindings). v ++ filtered es (join rows others)) (filtered_merged a h.0 (filter (agree a) others))
      ∙ ap (λ (v : List Bindings). cond (holds es a) (merges others a) [] ++ v) (filtered_join others rows h.1)
      ∙ by (holds es a)
    where
      by : (b : Bool) → cond b (merges others a) [] ++ join (filtered es rows) others ≡ join (cond b (a ∷ filtered es rows) (filtered es rows)) others
      by true = refl
      by false = refl
