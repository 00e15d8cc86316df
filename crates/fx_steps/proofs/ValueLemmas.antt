-- The value of an expression hangs on what its variables are bound to, and on nothing else.
use Rattle.std.proofs.Common.{◌≡◌, ◌∙◌, ap, sym, subst, refl, ℕ, Bool, ◌&&◌, List, [], ◌∷◌, ◌++◌, map, Option}
use Rattle.std.specs.List.{AllByRecursion, flat_map, list_all}
use Rattle.fx_terms.specs.declared.terms.Term.{Term}
use Rattle.fx_algebra.specs.Conditions.{holds, is_so}
use Rattle.fx_algebra.specs.Scopes.{all_of}
use Rattle.fx_algebra.specs.Solutions.{Bindings, term_of}
use Rattle.fx_algebra.specs.Units.{expr_names, names_step}
use Rattle.fx_algebra.specs.Values.{value, value_step, is_true, truth_of}
use Rattle.fx_algebra.specs.declared.expressions.Expr.{Expr, Expr-F, fold-roll-Expr, map-Expr, ind-Expr, roll-Expr}
use Rattle.fx_algebra.specs.declared.expressions.Sign.{Sign}

abbrev addend_values : Bindings → List (Sign × Expr) → List (Sign × Option Term)
addend_values s ps = map (λ (p : Sign × Expr). (p.0, value p.1 s)) ps

module _ (s t : Bindings) where
  -- both bind each of the names alike
  abbrev pub AreBoundAlike : List (List ℕ) → Type 0
  AreBoundAlike names = AllByRecursion (λ n. term_of s n ≡ term_of t n) names

  in_front : (xs ys : List (List ℕ)) → AreBoundAlike (xs ++ ys) → AreBoundAlike xs
  in_front [] ys h = tt
  in_front (x ∷ xs) ys h = (h.0, in_front xs ys h.1)

  behind : (xs ys : List (List ℕ)) → AreBoundAlike (xs ++ ys) → AreBoundAlike ys
  behind [] ys h = h
  behind (x ∷ xs) ys h = behind xs ys h.1

  abbrev IsAlike : Expr → Type 0
  IsAlike e = AreBoundAlike (expr_names e) → value e s ≡ value e t

  abbrev Alike : Type 0
  Alike = (e : Expr) × IsAlike e

  abbrev exprs : List Alike → List Expr
  exprs es = map (λ e. e.0) es

  abbrev addends : List (Sign × Alike) → List (Sign × Expr)
  addends ps = map (λ (p : Sign × Alike). (p.0, p.1.0)) ps

  parts_alike : (es : List Alike) → AreBoundAlike (all_of (map expr_names (exprs es))) → map (λ e. value e s) (exprs es) ≡ map (λ e. value e t) (exprs es)
  parts_alike [] h = refl
  parts_alike (e ∷ es) h =
      ap (λ (v : Option Term). v ∷ map (λ d. value d s) (exprs es)) (e.1 (in_front (expr_names e.0) (all_of (map expr_names (exprs es))) h))
      ∙ ap (λ (v : List (Option Term)). value e.0 t ∷ v) (parts_alike es (behind (expr_names e.0) (all_of (map expr_names (exprs es))) h))

  abbrev addend_names : List (Sign × Expr) → List (List ℕ)
  addend_names ps = flat_map (λ (p : Sign × List (List ℕ)). p.1) (map (λ (p : Sign × Expr). (p.0, expr_names p.1)) ps)

  addends_alike : (ps : List (Sign × Alike)) → AreBoundAlike (addend_names (addends ps)) → addend_values s (addends ps) ≡ addend_values t (addends ps)
  addends_alike [] h = refl
  addends_alike (p ∷ ps) h =
      ap (λ (v : Option Term). (p.0, v) ∷ addend_values s (addends ps)) (p.1.1 (in_front (expr_names p.1.0) (addend_names (addends ps)) h))
      ∙ ap (λ (v : List (Sign × Option Term)). (p.0, value p.1.0 t) ∷ v) (addends_alike ps (behind (expr_names p.1.0) (addend_names (addends ps)) h))

  by_layer : (x : Expr-F Expr) → (AreBoundAlike (names_step (map-Expr Expr (List (List ℕ)) expr_names x)) → value_step s (map-Expr Expr (Option Term) (λ e. value e s) x) ≡ value_step t (map-Expr Expr (Option Term) (λ e. value e t) x))
      → IsAlike (roll-Expr x)
  by_layer x f h =
      fold-roll-Expr (Option Term) (value_step s) x
      ∙ f (subst AreBoundAlike (fold-roll-Expr (List (List ℕ)) names_step x) h)
      ∙ sym (fold-roll-Expr (Option Term) (value_step t) x)

  layer_alike : (y : Expr-F Alike) → IsAlike (roll-Expr (map-Expr Alike Expr (λ e. e.0) y))
  layer_alike (Expr-F.Variable name) = by_layer (Expr-F.Variable name) (λ h. h.0)
  layer_alike (Expr-F.Constant term) = by_layer (Expr-F.Constant term) (λ h. refl)
  layer_alike (Expr-F.Or es) = by_layer (Expr-F.Or (exprs es)) (λ h. ap (λ (vs : List (Option Term)). value_step s (Expr-F.Or vs)) (parts_alike es h))
  layer_alike (Expr-F.And es) = by_layer (Expr-F.And (exprs es)) (λ h. ap (λ (vs : List (Option Term)). value_step s (Expr-F.And vs)) (parts_alike es h))
  layer_alike (Expr-F.Not e) = by_layer (Expr-F.Not e.0) (λ h. ap (λ (v : Option Term). value_step s (Expr-F.Not v)) (e.1 h))
  layer_alike (Expr-F.Positive e) = by_layer (Expr-F.Positive e.0) (λ h. ap (λ (v : Option Term). value_step s (Expr-F.Positive v)) (e.1 h))
  layer_alike (Expr-F.Negative e) = by_layer (Expr-F.Negative e.0) (λ h. ap (λ (v : Option Term). value_step s (Expr-F.Negative v)) (e.1 h))
  layer_alike (Expr-F.Compare op a b) =
      by_layer (Expr-F.Compare op a.0 b.0)
      (λ h. ap (λ (v : Option Term). value_step s (Expr-F.Compare op v (value b.0 s))) (a.1 (in_front (expr_names a.0) (expr_names b.0) h))
      ∙ ap (λ (v : Option Term). value_step s (Expr-F.Compare op (value a.0 t) v)) (b.1 (behind (expr_names a.0) (expr_names b.0) h)))
  layer_alike (Expr-F.Among negated a es) =
      by_layer (Expr-F.Among negated a.0 (exprs es))
      (λ h. ap (λ (v : Option Term). value_step s (Expr-F.Among negated v (map (λ e. value e s) (exprs es)))) (a.1 (in_front (expr_names a.0) (all_of (map expr_names (exprs es))) h))
      ∙ ap (λ (vs : List (Option Term)). value_step s (Expr-F.Among negated (value a.0 t) vs)) (parts_alike es (behind (expr_names a.0) (all_of (map expr_names (exprs es))) h)))
  layer_alike (Expr-F.Sum a ps) =
      by_layer (Expr-F.Sum a.0 (addends ps))
      (λ h. ap (λ (v : Option Term). value_step s (Expr-F.Sum v (addend_values s (addends ps)))) (a.1 (in_front (expr_names a.0) (addend_names (addends ps)) h))
      ∙ ap (λ (vs : List (Sign × Option Term)). value_step s (Expr-F.Sum (value a.0 t) vs)) (addends_alike ps (behind (expr_names a.0) (addend_names (addends ps)) h)))
  layer_alike (Expr-F.Product es) = by_layer (Expr-F.Product (exprs es)) (λ h. ap (λ (vs : List (Option Term)). value_step s (Expr-F.Product vs)) (parts_alike es h))
  layer_alike (Expr-F.Call f es) = by_layer (Expr-F.Call f (exprs es)) (λ h. ap (λ (vs : List (Option Term)). value_step s (Expr-F.Call f vs)) (parts_alike es h))

  pub value_alike : (e : Expr) → AreBoundAlike (expr_names e) → value e s ≡ value e t
  value_alike = ind-Expr IsAlike (λ x y same. subst (λ (z : Expr-F Expr). IsAlike (roll-Expr z)) same (layer_alike y))

  -- so conditions hold alike
  pub holds_alike : (es : List Expr) → AllByRecursion (λ e. AreBoundAlike (expr_names e)) es → holds es s ≡ holds es t
  unfolding holds
  holds_alike [] h = refl
  holds_alike (e ∷ es) h =
      ap (λ (v : Option Term). is_true (truth_of v) && list_all (is_so s) es) (value_alike e h.0)
      ∙ ap (λ (b : Bool). is_so t e && b) (holds_alike es h.1)
