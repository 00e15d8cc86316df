-- What a branch gives over a graph is what its row merges to.
use Rattle.std.proofs.Common.{◌≡◌, ◌∙◌, ap, sym, subst, refl, ℕ, Bool, true, false, ◌&&◌, ◌||◌, T, cond, List, [], ◌∷◌, ◌++◌, map, Option, Some, None, is_some, option_and_then, IsTrue, append-nil}
use Rattle.std.specs.List.{AllByRecursion, cons_option, filter_map, flat_map, list_all}
use Rattle.std.specs.FinMap.Entries.{same_entries}
use Rattle.std.specs.Option.{option_or}
use Rattle.std.specs.Ordering.{is_eq}
use Rattle.std.proofs.lemmas.Cmp.{tied_itself}
use Rattle.std.proofs.lemmas.List.{map-append}
use Rattle.std.proofs.lemmas.List.Elements.{recursion_from_All}
use Rattle.std.proofs.lemmas.List.Folds.{list_any-append}
use Rattle.std.proofs.lemmas.Map.Lookups.{exact_bytes}
use Rattle.std.proofs.lemmas.Bool.{or_left, or_right}
use Rattle.fx_terms.specs.Texts.{text_cmp, texts_total}
use Rattle.fx_terms.specs.declared.terms.Term.{Term}
use Rattle.fx_terms.specs.declared.terms.Term.TheVariants.{Iri, Literal}
use Rattle.fx_terms.specs.declared.triples.Triple.{Triple}
use Rattle.fx_terms.specs.declared.patterns.Pattern.{Pattern}
use Rattle.fx_terms.specs.declared.patterns.PatternTerm.{PatternTerm}
use Rattle.fx_terms.specs.declared.patterns.PatternTerm.TheVariants.{Variable, Constant}
use Rattle.fx_algebra.specs.BasicGraphPatterns.{all_parts, bgp, bound_to, choices, forced, parts_of, variables, with_part}
use Rattle.fx_algebra.specs.Conditions.{holds, is_so}
use Rattle.fx_algebra.specs.Evaluation.{extended, rows_from}
use Rattle.fx_algebra.specs.Operators.{filtered, merges, with_value}
use Rattle.fx_algebra.specs.Scopes.{all_of, is_among, part_names, pattern_names}
use Rattle.fx_algebra.specs.Solutions.{Bindings, rises, same_term, term_of, with_new, with_pair}
use Rattle.fx_algebra.specs.Units.{expr_names, is_covered, names_step}
use Rattle.fx_algebra.specs.Values.{is_true, truth_of, value, value_step}
use Rattle.fx_algebra.specs.declared.expressions.Expr.{Expr, Expr-F, fold-roll-Expr, ind-Expr, map-Expr, roll-Expr}
use Rattle.fx_algebra.specs.declared.expressions.Sign.{Sign}
use Rattle.fx_algebra.proofs.BgpLemmas.{rows_beside, rows_from-bgp, rows_from-flat_map}
use Rattle.fx_algebra.proofs.ForcedLemmas.{name_from, with_pair_has}
use Rattle.fx_algebra.proofs.JoinLemmas.{join_run}
use Rattle.fx_algebra.proofs.PairLemmas.{rises_new, rises_with}
use Rattle.fx_renaming.specs.Branches.{BranchTellsItsRow, HopelessBranchHasNone, TellsApart, is_hopeless, is_literal, bound_expr, bound_part, bound_pattern, bound_step, expr_by, part_by, told}

to_T : (b : Bool) → b ≡ true → T b
to_T true h = tt
to_T false h = cc

or_none : (o : Option Term) → option_or o None ≡ o
or_none None = refl
or_none (Some t) = refl

eq_itself : (n : List ℕ) → is_eq (text_cmp n n) ≡ true
eq_itself n = ap is_eq (tied_itself texts_total n)

missed_too : (m n : List ℕ) → is_eq (text_cmp n m) ≡ false → is_eq (text_cmp m n) ≡ false
missed_too m n h = by (is_eq (text_cmp m n)) refl
  where
    by : (b : Bool) → is_eq (text_cmp m n) ≡ b → is_eq (text_cmp m n) ≡ false
    by true e = let two : true ≡ false = sym (eq_itself n) ∙ ap (λ v. is_eq (text_cmp n v)) (sym (name_from m n e)) ∙ h in absurd (cc)
    by false e = e

-- ---- the solution beside the one under other names

module _ (rename : List ℕ → List ℕ) (names : List (List ℕ)) (apart : TellsApart rename names) (row : Bindings) where
  -- each of the names has the row's term, or else that of its other name; all else is the row's
  record IsSame (s t : Bindings) : Type 0 where
    rising : IsTrue (rises s)
    inside : (n : List ℕ) → is_among names n ≡ true → term_of s n ≡ option_or (term_of row n) (term_of t (rename n))
    outside : (n : List ℕ) → is_among names n ≡ false → term_of s n ≡ term_of row n

  abbrev AreSame : Option Bindings → Option Bindings → Type 0
  AreSame None None = Unit {0}
  AreSame (Some s) (Some t) = IsSame s t
  AreSame None (Some t) = ⊥
  AreSame (Some s) None = ⊥

  either : (b : Bool) (s t : Bindings) → IsSame s t → AreSame (cond b (Some s) None) (cond b (Some t) None)
  either true s t h = h
  either false s t h = tt

  -- a name that the row leaves free is bound on both sides
  bind_both : (s t : Bindings) (name : List ℕ) (term : Term) → IsSame s t → is_among names name ≡ true → term_of row name ≡ None → IsSame (with_pair s name term) (with_pair t (rename name) term)
  bind_both s t name term h among free = record {
    rising = rises_with s name term h.rising;
    inside = λ n m. with_pair_has s name term n ∙ by n m (is_eq (text_cmp n name)) refl;
    outside = λ n m. with_pair_has s name term n ∙ by_other n m (is_eq (text_cmp n name)) refl;
  }
    where
      renamed : (n : List ℕ) → is_among names n ≡ true → is_eq (text_cmp n name) ≡ false → (b : Bool) → is_eq (text_cmp (rename n) (rename name)) ≡ b → is_eq (text_cmp (rename n) (rename name)) ≡ false
      renamed n m other true e =
          let same : n ≡ name = apart n name m among (name_from (rename n) (rename name) e) in
          let two : true ≡ false = sym (eq_itself name) ∙ ap (λ v. is_eq (text_cmp v name)) (sym same) ∙ other in
          absurd (cc)
      renamed n m other false e = e

      by : (n : List ℕ) → is_among names n ≡ true → (b : Bool) → is_eq (text_cmp n name) ≡ b → cond b (Some term) (term_of s n) ≡ option_or (term_of row n) (term_of (with_pair t (rename name) term) (rename n))
      by n m true e =
          let same : n ≡ name = name_from n name e in
          let has : term_of (with_pair t (rename name) term) (rename n) ≡ Some term =
          with_pair_has t (rename name) term (rename n) ∙ ap (λ (b : Bool). cond b (Some term) (term_of t (rename n))) (ap (λ v. is_eq (text_cmp (rename v) (rename name))) same ∙ eq_itself (rename name)) in
          sym (ap (λ (o : Option Term). option_or o (term_of (with_pair t (rename name) term) (rename n))) (ap (term_of row) same ∙ free) ∙ has)
      by n m false e =
          let other : term_of (with_pair t (rename name) term) (rename n) ≡ term_of t (rename n) =
          with_pair_has t (rename name) term (rename n) ∙ ap (λ (b : Bool). cond b (Some term) (term_of t (rename n))) (renamed n m e (is_eq (text_cmp (rename n) (rename name))) refl) in
          h.inside n m ∙ ap (option_or (term_of row n)) (sym other)

      by_other : (n : List ℕ) → is_among names n ≡ false → (b : Bool) → is_eq (text_cmp n name) ≡ b → cond b (Some term) (term_of s n) ≡ term_of row n
      by_other n m true e = let two : true ≡ false = sym among ∙ ap (is_among names) (sym (name_from n name e)) ∙ m in absurd (cc)
      by_other n m false e = h.outside n m

  -- ---- one part

  abbrev IsNamed : PatternTerm → Type 0
  IsNamed (Variable name) = is_among names name ≡ true
  IsNamed (Constant t) = Unit {0}

  free_same : (s t : Bindings) (name : List ℕ) (term : Term) (p : Option Term) → IsSame s t → is_among names name ≡ true → term_of row name ≡ None → AreSame (bound_to s name term p) (bound_to t (rename name) term p)
  free_same s t name term None h among free = bind_both s t name term h among free
  free_same s t name term (Some other) h among free = either (same_term other term) s t h

  variable_same : (s t : Bindings) (name : List ℕ) (term : Term) (o : Option Term) → IsSame s t → is_among names name ≡ true → term_of row name ≡ o → AreSame (bound_to s name term (term_of s name)) (with_part t (part_by rename name o) term)
  variable_same s t name term (Some c) h among e =
      subst (λ (v : Option Term). AreSame (bound_to s name term v) (cond (same_term c term) (Some t) None)) (sym (h.inside name among ∙ ap (λ (v : Option Term). option_or v (term_of t (rename name))) e)) (either (same_term c term) s t h)
  variable_same s t name term None h among e =
      subst (λ (v : Option Term). AreSame (bound_to s name term v) (bound_to t (rename name) term (term_of t (rename name)))) (sym (h.inside name among ∙ ap (λ (v : Option Term). option_or v (term_of t (rename name))) e))
      (free_same s t name term (term_of t (rename name)) h among e)

  part_same : (s t : Bindings) (part : PatternTerm) (term : Term) → IsSame s t → IsNamed part → AreSame (with_part s part term) (with_part t (bound_part rename row part) term)
  part_same s t (Constant c) term h named = either (same_term c term) s t h
  part_same s t (Variable name) term h named = variable_same s t name term (term_of row name) h named refl

  -- ---- all parts

  abbrev bound_parts : List (PatternTerm × Term) → List (PatternTerm × Term)
  bound_parts cs = map (λ (c : PatternTerm × Term). (bound_part rename row c.0, c.1)) cs

  forced_same : (cs : List (PatternTerm × Term)) → AllByRecursion (λ c. IsNamed c.0) cs → (s t : Bindings) → IsSame s t → AreSame (forced s cs) (forced t (bound_parts cs))
  forced_same [] named s t h = h
  forced_same (c ∷ cs) named s t h = go (with_part s c.0 c.1) (with_part t (bound_part rename row c.0) c.1) (part_same s t c.0 c.1 h named.0) (forced_same cs named.1)
    where
      go : (o p : Option Bindings) → AreSame o p → ((s t : Bindings) → IsSame s t → AreSame (forced s cs) (forced t (bound_parts cs))) → AreSame (option_and_then (λ r. forced r cs) o) (option_and_then (λ r. forced r (bound_parts cs)) p)
      go None None k f = tt
      go (Some v) (Some w) k f = f v w k
      go None (Some w) k f = absurd k
      go (Some v) None k f = absurd k

  start : IsTrue (rises row) → IsSame row []
  start up = record { rising = up; inside = λ n m. sym (or_none (term_of row n)); outside = λ n m. refl }

-- ---- what is told is the solution

pub value_rises : (s : Bindings) (name : List ℕ) (o : Option Term) → IsTrue (rises s) → IsTrue (rises (with_value s name o))
value_rises s name None up = up
value_rises s name (Some t) up = rises_new s (name, t) up

value_term : (s : Bindings) (name : List ℕ) (o : Option Term) (n : List ℕ) → term_of (with_value s name o) n ≡ cond (is_eq (text_cmp n name)) (option_or (term_of s n) o) (term_of s n)
value_term s name None n = by (is_eq (text_cmp n name))
  where
    by : (b : Bool) → term_of s n ≡ cond b (option_or (term_of s n) None) (term_of s n)
    by true = sym (or_none (term_of s n))
    by false = refl
value_term s name (Some t) n = by (term_of s name) refl
  where
    at : (b : Bool) → is_eq (text_cmp n name) ≡ b → (o : Option Term) → term_of s name ≡ o → term_of (cond (is_some o) s (with_pair s name t)) n ≡ cond b (option_or (term_of s n) (Some t)) (term_of s n)
    at true e (Some u) f = let here : term_of s n ≡ Some u = ap (term_of s) (name_from n name e) ∙ f in here ∙ ap (λ (v : Option Term). option_or v (Some t)) (sym here)
    at true e None f =
        let here : term_of s n ≡ None = ap (term_of s) (name_from n name e) ∙ f in
        with_pair_has s name t n ∙ ap (λ (b : Bool). cond b (Some t) (term_of s n)) e ∙ ap (λ (v : Option Term). option_or v (Some t)) (sym here)
    at false e (Some u) f = refl
    at false e None f = with_pair_has s name t n ∙ ap (λ (b : Bool). cond b (Some t) (term_of s n)) e

    by : (o : Option Term) → term_of s name ≡ o → term_of (with_new s (name, t)) n ≡ cond (is_eq (text_cmp n name)) (option_or (term_of s n) (Some t)) (term_of s n)
    by o f = ap (λ (v : Option Term). term_of (cond (is_some v) s (with_pair s name t)) n) f ∙ at (is_eq (text_cmp n name)) refl o f

module _ (rename : List ℕ → List ℕ) where
  pub told_rises : (names : List (List ℕ)) (s t : Bindings) → IsTrue (rises s) → IsTrue (rises (told rename names s t))
  told_rises [] s t up = up
  told_rises (name ∷ names) s t up = told_rises names (with_value s name (term_of t (rename name))) t (value_rises s name (term_of t (rename name)) up)

  pub told_term : (names : List (List ℕ)) (s t : Bindings) (n : List ℕ) → term_of (told rename names s t) n ≡ cond (is_among names n) (option_or (term_of s n) (term_of t (rename n))) (term_of s n)
  told_term [] s t n = refl
  told_term (name ∷ names) s t n =
      told_term names (with_value s name (term_of t (rename name))) t n
      ∙ ap (λ (v : Option Term). cond (is_among names n) (option_or v (term_of t (rename n))) v) (value_term s name (term_of t (rename name)) n)
      ∙ turn (is_eq (text_cmp n name)) refl (is_among names n)
    where
      again : (o p : Option Term) → option_or (option_or o p) p ≡ option_or o p
      again None None = refl
      again None (Some u) = refl
      again (Some v) p = refl

      pick : (c : Bool) → cond c (option_or (option_or (term_of s n) (term_of t (rename n))) (term_of t (rename n))) (option_or (term_of s n) (term_of t (rename n))) ≡ option_or (term_of s n) (term_of t (rename n))
      pick true = again (term_of s n) (term_of t (rename n))
      pick false = refl

      turn : (b : Bool) → is_eq (text_cmp n name) ≡ b → (c : Bool)
          → cond c (option_or (cond b (option_or (term_of s n) (term_of t (rename name))) (term_of s n)) (term_of t (rename n))) (cond b (option_or (term_of s n) (term_of t (rename name))) (term_of s n))
          ≡ cond (is_eq (text_cmp name n) || c) (option_or (term_of s n) (term_of t (rename n))) (term_of s n)
      turn true e c =
          let same : n ≡ name = name_from n name e in
          let found : is_eq (text_cmp name n) ≡ true = ap (λ v. is_eq (text_cmp v n)) (sym same) ∙ eq_itself n in
          ap (λ v. cond c (option_or (option_or (term_of s n) (term_of t (rename v))) (term_of t (rename n))) (option_or (term_of s n) (term_of t (rename v)))) (sym same)
          ∙ pick c
          ∙ ap (λ (b : Bool). cond (b || c) (option_or (term_of s n) (term_of t (rename n))) (term_of s n)) (sym found)
      turn false e c =
          let missed : is_eq (text_cmp name n) ≡ false = missed_too name n e in
          ap (λ (b : Bool). cond (b || c) (option_or (term_of s n) (term_of t (rename n))) (term_of s n)) (sym missed)

told_is : (rename : List ℕ → List ℕ) (names : List (List ℕ)) (apart : TellsApart rename names) (row s t : Bindings) → IsTrue (rises row) → IsSame rename names apart row s t → told rename names row t ≡ s
told_is rename names apart row s t up h =
    same_entries text_cmp texts_total exact_bytes (told rename names row t) s (to_T (rises (told rename names row t)) (told_rises rename names row t up)) (to_T (rises s) h.rising)
    (λ n. told_term rename names row t n ∙ by n (is_among names n) refl)
  where
    by : (n : List ℕ) (b : Bool) → is_among names n ≡ b → cond b (option_or (term_of row n) (term_of t (rename n))) (term_of row n) ≡ term_of s n
    by n true e = sym (h.inside n e)
    by n false e = sym (h.outside n e)

-- ---- the value of a bound expression

module _ (rename : List ℕ → List ℕ) (row s t : Bindings) where
  -- each of the names has the term on the one side that it becomes on the other
  abbrev pub AreTold : List (List ℕ) → Type 0
  AreTold ns = AllByRecursion (λ n. term_of s n ≡ option_or (term_of row n) (term_of t (rename n))) ns

  in_front : (xs ys : List (List ℕ)) → AreTold (xs ++ ys) → AreTold xs
  in_front [] ys h = tt
  in_front (x ∷ xs) ys h = (h.0, in_front xs ys h.1)

  behind : (xs ys : List (List ℕ)) → AreTold (xs ++ ys) → AreTold ys
  behind [] ys h = h
  behind (x ∷ xs) ys h = behind xs ys h.1

  abbrev bound : Expr → Expr
  bound = bound_expr rename row

  abbrev IsKept : Expr → Type 0
  IsKept e = AreTold (expr_names e) → value (bound e) t ≡ value e s

  abbrev Kept : Type 0
  Kept = (e : Expr) × IsKept e

  abbrev exprs : List Kept → List Expr
  exprs es = map (λ e. e.0) es

  abbrev addends : List (Sign × Kept) → List (Sign × Expr)
  addends ps = map (λ (p : Sign × Kept). (p.0, p.1.0)) ps

  abbrev addend_values : Bindings → List (Sign × Expr) → List (Sign × Option Term)
  addend_values u ps = map (λ (p : Sign × Expr). (p.0, value p.1 u)) ps

  abbrev bound_addends : List (Sign × Expr) → List (Sign × Expr)
  bound_addends ps = map (λ (p : Sign × Expr). (p.0, bound p.1)) ps

  abbrev addend_names : List (Sign × Expr) → List (List ℕ)
  addend_names ps = flat_map (λ (p : Sign × List (List ℕ)). p.1) (map (λ (p : Sign × Expr). (p.0, expr_names p.1)) ps)

  parts_kept : (es : List Kept) → AreTold (all_of (map expr_names (exprs es))) → map (λ e. value e t) (map bound (exprs es)) ≡ map (λ e. value e s) (exprs es)
  parts_kept [] h = refl
  parts_kept (e ∷ es) h =
      ap (λ (v : Option Term). v ∷ map (λ d. value d t) (map bound (exprs es))) (e.1 (in_front (expr_names e.0) (all_of (map expr_names (exprs es))) h))
      ∙ ap (λ (v : List (Option Term)). value e.0 s ∷ v) (parts_kept es (behind (expr_names e.0) (all_of (map expr_names (exprs es))) h))

  addends_kept : (ps : List (Sign × Kept)) → AreTold (addend_names (addends ps)) → addend_values t (bound_addends (addends ps)) ≡ addend_values s (addends ps)
  addends_kept [] h = refl
  addends_kept (p ∷ ps) h =
      ap (λ (v : Option Term). (p.0, v) ∷ addend_values t (bound_addends (addends ps))) (p.1.1 (in_front (expr_names p.1.0) (addend_names (addends ps)) h))
      ∙ ap (λ (v : List (Sign × Option Term)). (p.0, value p.1.0 s) ∷ v) (addends_kept ps (behind (expr_names p.1.0) (addend_names (addends ps)) h))

  variable_kept : (name : List ℕ) (o : Option Term) → term_of row name ≡ o → term_of s name ≡ option_or (term_of row name) (term_of t (rename name)) → value (expr_by rename name o) t ≡ term_of s name
  variable_kept name (Some c) e h =
      fold-roll-Expr (Option Term) (value_step t) (Expr-F.Constant c) ∙ sym (h ∙ ap (λ (v : Option Term). option_or v (term_of t (rename name))) e)
  variable_kept name None e h =
      fold-roll-Expr (Option Term) (value_step t) (Expr-F.Variable (rename name)) ∙ sym (h ∙ ap (λ (v : Option Term). option_or v (term_of t (rename name))) e)

  -- a layer whose parts are bound each in its place
  by_layer : (x y : Expr-F Expr) → bound_step rename row (map-Expr Expr Expr bound x) ≡ roll-Expr y
      → (AreTold (names_step (map-Expr Expr (List (List ℕ)) expr_names x)) → value_step t (map-Expr Expr (Option Term) (λ e. value e t) y) ≡ value_step s (map-Expr Expr (Option Term) (λ e. value e s) x)) → IsKept (roll-Expr x)
  by_layer x y is f h =
      ap (λ (e : Expr). value e t) (fold-roll-Expr Expr (bound_step rename row) x ∙ is)
      ∙ fold-roll-Expr (Option Term) (value_step t) y
      ∙ f (subst AreTold (fold-roll-Expr (List (List ℕ)) names_step x) h)
      ∙ sym (fold-roll-Expr (Option Term) (value_step s) x)

  layer_kept : (y : Expr-F Kept) → IsKept (roll-Expr (map-Expr Kept Expr (λ e. e.0) y))
  layer_kept (Expr-F.Variable name) = λ h.
      ap (λ (e : Expr). value e t) (fold-roll-Expr Expr (bound_step rename row) (Expr-F.Variable name))
      ∙ variable_kept name (term_of row name) refl ((subst AreTold (fold-roll-Expr (List (List ℕ)) names_step (Expr-F.Variable name)) h).0)
      ∙ sym (fold-roll-Expr (Option Term) (value_step s) (Expr-F.Variable name))
  layer_kept (Expr-F.Constant c) = by_layer (Expr-F.Constant c) (Expr-F.Constant c) refl (λ h. refl)
  layer_kept (Expr-F.Or es) = by_layer (Expr-F.Or (exprs es)) (Expr-F.Or (map bound (exprs es))) refl (λ h. ap (λ (vs : List (Option Term)). value_step s (Expr-F.Or vs)) (parts_kept es h))
  layer_kept (Expr-F.And es) = by_layer (Expr-F.And (exprs es)) (Expr-F.And (map bound (exprs es))) refl (λ h. ap (λ (vs : List (Option Term)). value_step s (Expr-F.And vs)) (parts_kept es h))
  layer_kept (Expr-F.Not e) = by_layer (Expr-F.Not e.0) (Expr-F.Not (bound e.0)) refl (λ h. ap (λ (v : Option Term). value_step s (Expr-F.Not v)) (e.1 h))
  layer_kept (Expr-F.Positive e) = by_layer (Expr-F.Positive e.0) (Expr-F.Positive (bound e.0)) refl (λ h. ap (λ (v : Option Term). value_step s (Expr-F.Positive v)) (e.1 h))
  layer_kept (Expr-F.Negative e) = by_layer (Expr-F.Negative e.0) (Expr-F.Negative (bound e.0)) refl (λ h. ap (λ (v : Option Term). value_step s (Expr-F.Negative v)) (e.1 h))
  layer_kept (Expr-F.Compare op a b) =
      by_layer (Expr-F.Compare op a.0 b.0) (Expr-F.Compare op (bound a.0) (bound b.0)) refl
      (λ h. ap (λ (v : Option Term). value_step s (Expr-F.Compare op v (value (bound b.0) t))) (a.1 (in_front (expr_names a.0) (expr_names b.0) h))
      ∙ ap (λ (v : Option Term). value_step s (Expr-F.Compare op (value a.0 s) v)) (b.1 (behind (expr_names a.0) (expr_names b.0) h)))
  layer_kept (Expr-F.Among negated a es) =
      by_layer (Expr-F.Among negated a.0 (exprs es)) (Expr-F.Among negated (bound a.0) (map bound (exprs es))) refl
      (λ h. ap (λ (v : Option Term). value_step s (Expr-F.Among negated v (map (λ e. value e t) (map bound (exprs es))))) (a.1 (in_front (expr_names a.0) (all_of (map expr_names (exprs es))) h))
      ∙ ap (λ (vs : List (Option Term)). value_step s (Expr-F.Among negated (value a.0 s) vs)) (parts_kept es (behind (expr_names a.0) (all_of (map expr_names (exprs es))) h)))
  layer_kept (Expr-F.Sum a ps) =
      by_layer (Expr-F.Sum a.0 (addends ps)) (Expr-F.Sum (bound a.0) (bound_addends (addends ps))) refl
      (λ h. ap (λ (v : Option Term). value_step s (Expr-F.Sum v (addend_values t (bound_addends (addends ps))))) (a.1 (in_front (expr_names a.0) (addend_names (addends ps)) h))
      ∙ ap (λ (vs : List (Sign × Option Term)). value_step s (Expr-F.Sum (value a.0 s) vs)) (addends_kept ps (behind (expr_names a.0) (addend_names (addends ps)) h)))
  layer_kept (Expr-F.Product es) = by_layer (Expr-F.Product (exprs es)) (Expr-F.Product (map bound (exprs es))) refl (λ h. ap (λ (vs : List (Option Term)). value_step s (Expr-F.Product vs)) (parts_kept es h))
  layer_kept (Expr-F.Call f es) = by_layer (Expr-F.Call f (exprs es)) (Expr-F.Call f (map bound (exprs es))) refl (λ h. ap (λ (vs : List (Option Term)). value_step s (Expr-F.Call f vs)) (parts_kept es h))

  value_kept : (e : Expr) → IsKept e
  value_kept = ind-Expr IsKept (λ x y same. subst (λ (z : Expr-F Expr). IsKept (roll-Expr z)) same (layer_kept y))

  pub holds_kept : (es : List Expr) → AllByRecursion (λ e. AreTold (expr_names e)) es → holds (map bound es) t ≡ holds es s
  unfolding holds
  holds_kept [] h = refl
  holds_kept (e ∷ es) h =
      ap (λ (v : Option Term). is_true (truth_of v) && list_all (is_so t) (map bound es)) (value_kept e h.0)
      ∙ ap (λ (b : Bool). is_so s e && b) (holds_kept es h.1)

-- ---- the solutions of a branch

both_true : (b c : Bool) → (b && c) ≡ true → (b ≡ true) × (c ≡ true)
both_true true c e = (refl, e)
both_true false c e = cc

choices_same : (graph : List Triple) (f : Pattern → Pattern) (ps : List Pattern) → choices graph (map f ps) ≡ choices graph ps
choices_same graph f [] = refl
choices_same graph f (p ∷ ps) = ap (λ (v : List (List Triple)). flat_map (λ t. map (λ ts. t ∷ ts) v) graph) (choices_same graph f ps)

merges_are : (graph : List Triple) (ps : List Pattern) (row : Bindings) → IsTrue (rises row) → merges (bgp graph ps) row ≡ filter_map (λ ts. forced row (all_parts ps ts)) (choices graph ps)
merges_are graph ps row up =
    sym (append-nil (merges (bgp graph ps) row))
    ∙ join_run graph ps (row ∷ []) (to_T (rises row) up, tt)
    ∙ rows_from-flat_map graph (row ∷ []) ps
    ∙ append-nil (rows_beside graph ps row)

module _ (rename : List ℕ → List ℕ) (names : List (List ℕ)) (apart : TellsApart rename names) (row : Bindings) (up : IsTrue (rises row)) where
  abbrev named : PatternTerm → Type 0
  named = IsNamed rename names apart row

  parts_bound : (ps : List Pattern) (ts : List Triple) → all_parts (map (bound_pattern rename row) ps) ts ≡ bound_parts rename names apart row (all_parts ps ts)
  parts_bound [] ts = refl
  parts_bound (p ∷ ps) [] = refl
  parts_bound (p ∷ ps) (t ∷ ts) =
      ap (λ (v : List (PatternTerm × Term)). bound_parts rename names apart row (parts_of p t) ++ v) (parts_bound ps ts)
      ∙ sym (map-append (λ (c : PatternTerm × Term). (bound_part rename row c.0, c.1)) (parts_of p t) (all_parts ps ts))

  module _ (es : List Expr) (own : AllByRecursion (λ e. list_all (is_among names) (expr_names e) ≡ true) es) where
    names_told : (s t : Bindings) → IsSame rename names apart row s t → (ns : List (List ℕ)) → list_all (is_among names) ns ≡ true → AreTold rename row s t ns
    names_told s t h [] c = tt
    names_told s t h (n ∷ ns) c = let k = both_true (is_among names n) (list_all (is_among names) ns) c in (h.inside n k.0, names_told s t h ns k.1)

    all_told : (s t : Bindings) → IsSame rename names apart row s t → (fs : List Expr) → AllByRecursion (λ e. list_all (is_among names) (expr_names e) ≡ true) fs → AllByRecursion (λ e. AreTold rename row s t (expr_names e)) fs
    all_told s t h [] c = tt
    all_told s t h (f ∷ fs) c = (names_told s t h (expr_names f) c.0, all_told s t h fs c.1)

    abbrev bound_es : List Expr
    bound_es = map (bound_expr rename row) es

    -- one choice
    one_told : (o p : Option Bindings) (rest others : List Bindings) → AreSame rename names apart row o p → map (told rename names row) (filtered bound_es others) ≡ filtered es rest
        → map (told rename names row) (filtered bound_es (cons_option p others)) ≡ filtered es (cons_option o rest)
    one_told None None rest others h k = k
    one_told (Some s) (Some t) rest others h k =
        ap (λ (b : Bool). map (told rename names row) (cond b (t ∷ filtered bound_es others) (filtered bound_es others))) (holds_kept rename row s t es (all_told s t h es own))
        ∙ by (holds es s)
      where
        by : (b : Bool) → map (told rename names row) (cond b (t ∷ filtered bound_es others) (filtered bound_es others)) ≡ cond b (s ∷ filtered es rest) (filtered es rest)
        by true = ap (λ (v : Bindings). v ∷ map (told rename names row) (filtered bound_es others)) (told_is rename names apart row s t up h) ∙ ap (λ (v : List Bindings). s ∷ v) k
        by false = k
    one_told None (Some t) rest others h k = absurd h
    one_told (Some s) None rest others h k = absurd h

    all_choices : (ps : List Pattern) → ((ts : List Triple) → AllByRecursion (λ c. named c.0) (all_parts ps ts)) → (cs : List (List Triple))
        → map (told rename names row) (filtered bound_es (filter_map (λ ts. forced [] (bound_parts rename names apart row (all_parts ps ts))) cs)) ≡ filtered es (filter_map (λ ts. forced row (all_parts ps ts)) cs)
    all_choices ps f [] = refl
    all_choices ps f (ts ∷ cs) =
        one_told (forced row (all_parts ps ts)) (forced [] (bound_parts rename names apart row (all_parts ps ts))) (filter_map (λ us. forced row (all_parts ps us)) cs)
        (filter_map (λ us. forced [] (bound_parts rename names apart row (all_parts ps us))) cs) (forced_same rename names apart row (all_parts ps ts) (f ts) row [] (start rename names apart row up)) (all_choices ps f cs)

-- ---- all names of patterns are among them

module _ (names : List (List ℕ)) where
  abbrev Holds : PatternTerm → Type 0
  Holds part = (n : List ℕ) → is_among (part_names part) n ≡ true → is_among names n ≡ true

found_in : (xs ys : List (List ℕ)) (n : List ℕ) → is_among xs n ≡ true → is_among (xs ++ ys) n ≡ true
found_in xs ys n h = list_any-append (λ m. is_eq (text_cmp m n)) xs ys ∙ or_left (is_among xs n) (is_among ys n) h

found_behind : (xs ys : List (List ℕ)) (n : List ℕ) → is_among ys n ≡ true → is_among (xs ++ ys) n ≡ true
found_behind xs ys n h = list_any-append (λ m. is_eq (text_cmp m n)) xs ys ∙ or_right (is_among xs n) (is_among ys n) h

module _ (rename : List ℕ → List ℕ) (names : List (List ℕ)) (apart : TellsApart rename names) (row : Bindings) where
  a_part : (part : PatternTerm) → ((n : List ℕ) → is_among (part_names part) n ≡ true → is_among names n ≡ true) → IsNamed rename names apart row part
  a_part (Variable name) h = h name (or_left (is_eq (text_cmp name name)) false (eq_itself name))
  a_part (Constant t) h = tt

  all_named : (ps : List Pattern) → ((n : List ℕ) → is_among (variables ps) n ≡ true → is_among names n ≡ true) → (ts : List Triple) → AllByRecursion (λ c. IsNamed rename names apart row c.0) (all_parts ps ts)
  all_named [] h ts = tt
  all_named (p ∷ ps) h [] = tt
  all_named (p ∷ ps) h (t ∷ ts) = (
    a_part p.subject (λ n m. h n (found_in (pattern_names p) (variables ps) n (found_in (part_names p.subject) (part_names p.predicate ++ part_names p.object) n m))),
    (
      a_part p.predicate (λ n m. h n (found_in (pattern_names p) (variables ps) n (found_behind (part_names p.subject) (part_names p.predicate ++ part_names p.object) n (found_in (part_names p.predicate) (part_names p.object) n m)))),
      (
        a_part p.object (λ n m. h n (found_in (pattern_names p) (variables ps) n (found_behind (part_names p.subject) (part_names p.predicate ++ part_names p.object) n (found_behind (part_names p.predicate) (part_names p.object) n m)))),
        all_named ps (λ n m. h n (found_behind (pattern_names p) (variables ps) n m)) ts,
      ),
    ),
  )

filter_map_same : {X Y : Type 0} (f g : X → Option Y) → ((x : X) → f x ≡ g x) → (xs : List X) → filter_map f xs ≡ filter_map g xs
filter_map_same f g same [] = refl
filter_map_same f g same (x ∷ xs) = λ i. cons_option (same x i) (filter_map_same f g same xs i)

pub branch_tells_its_row : BranchTellsItsRow
branch_tells_its_row graph ps es row rename up apart own =
    let names = variables ps in
    let qs = map (bound_pattern rename row) ps in
    let rows : bgp graph qs ≡ filter_map (λ ts. forced [] (bound_parts rename names apart row (all_parts ps ts))) (choices graph ps) =
    ap (filter_map (λ ts. forced [] (all_parts qs ts))) (choices_same graph (bound_pattern rename row) ps)
    ∙ filter_map_same (λ ts. forced [] (all_parts qs ts)) (λ ts. forced [] (bound_parts rename names apart row (all_parts ps ts))) (λ ts. ap (forced []) (parts_bound rename names apart row up ps ts)) (choices graph ps) in
    ap (λ (v : List Bindings). map (told rename names row) (filtered (map (bound_expr rename row) es) v)) rows
    ∙ all_choices rename names apart row up es (recursion_from_All (λ e. is_covered ps e ≡ true) es own) ps (all_named rename names apart row ps (λ n m. m)) (choices graph ps)
    ∙ ap (filtered es) (sym (merges_are graph ps row up))

-- ---- branches that are left out

no_row : (part : PatternTerm) (a : List ℕ) (s : Bindings) → is_literal part ≡ true → with_part s part (Iri a) ≡ None
no_row (Variable name) a s h = absurd (cc)
no_row (Constant (Iri b)) a s h = absurd (cc)
no_row (Constant (Literal b)) a s h = refl

-- parts force nothing where one of the first two does
no_first : (s : Bindings) (p : Pattern) (t : Triple) → is_literal p.subject ≡ true → forced s (parts_of p t) ≡ None
no_first s p t h = ap (option_and_then (λ r. forced r ((p.predicate, Iri t.predicate) ∷ (p.object, t.object) ∷ []))) (no_row p.subject t.subject s h)

no_second : (s : Bindings) (p : Pattern) (t : Triple) → is_literal p.predicate ≡ true → forced s (parts_of p t) ≡ None
no_second s p t h = by (with_part s p.subject (Iri t.subject))
  where
    by : (o : Option Bindings) → option_and_then (λ r. forced r ((p.predicate, Iri t.predicate) ∷ (p.object, t.object) ∷ [])) o ≡ None
    by None = refl
    by (Some r) = ap (option_and_then (λ v. forced v ((p.object, t.object) ∷ []))) (no_row p.predicate t.predicate r h)

none_forced : (s : Bindings) (p : Pattern) → (is_literal p.subject || is_literal p.predicate) ≡ true → (t : Triple) → forced s (parts_of p t) ≡ None
none_forced s p h t = by (is_literal p.subject) refl h
  where
    by : (b : Bool) → is_literal p.subject ≡ b → (b || is_literal p.predicate) ≡ true → forced s (parts_of p t) ≡ None
    by true e k = no_first s p t e
    by false e k = no_second s p t k

none_kept : {X Y : Type 0} (f : X → Option Y) (xs : List X) → ((x : X) → f x ≡ None) → filter_map f xs ≡ []
none_kept f [] h = refl
none_kept f (x ∷ xs) h = ap (λ o. cons_option o (filter_map f xs)) (h x) ∙ none_kept f xs h

none_extended : (graph : List Triple) (p : Pattern) → (is_literal p.subject || is_literal p.predicate) ≡ true → (rows : List Bindings) → extended graph p rows ≡ []
none_extended graph p h [] = refl
none_extended graph p h (r ∷ rows) = ap (λ (v : List Bindings). v ++ extended graph p rows) (none_kept (λ t. forced r (parts_of p t)) graph (none_forced r p h)) ∙ none_extended graph p h rows

rows_of_none : (graph : List Triple) (ps : List Pattern) → rows_from graph [] ps ≡ []
rows_of_none graph [] = refl
rows_of_none graph (p ∷ ps) = rows_of_none graph ps

no_rows_from : (graph : List Triple) (ps : List Pattern) (rows : List Bindings) → is_hopeless ps ≡ true → rows_from graph rows ps ≡ []
no_rows_from graph [] rows h = absurd (cc)
no_rows_from graph (p ∷ ps) rows h = by (is_literal p.subject || is_literal p.predicate) refl h (no_rows_from graph ps (extended graph p rows))
  where
    by : (b : Bool) → (is_literal p.subject || is_literal p.predicate) ≡ b → (b || is_hopeless ps) ≡ true → (is_hopeless ps ≡ true → rows_from graph (extended graph p rows) ps ≡ []) → rows_from graph (extended graph p rows) ps ≡ []
    by true e k f = ap (λ (v : List Bindings). rows_from graph v ps) (none_extended graph p e rows) ∙ rows_of_none graph ps
    by false e k f = f k

pub hopeless_branch_has_none : HopelessBranchHasNone
hopeless_branch_has_none graph ps es row rename up apart own h =
    let qs = map (bound_pattern rename row) ps in
    sym (branch_tells_its_row graph ps es row rename up apart own)
    ∙ ap (λ (v : List Bindings). map (told rename (variables ps) row) (filtered (map (bound_expr rename row) es) v)) (sym (rows_from-bgp graph qs) ∙ no_rows_from graph qs ([] ∷ []) h)
