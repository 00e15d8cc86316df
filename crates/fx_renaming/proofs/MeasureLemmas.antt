-- An expression without BOUND has the same measure where a row's terms stand in it.
use Rattle.std.proofs.Common.{◌≡◌, ◌∙◌, ap, sym, subst, refl, ℕ, suc, max, Bool, true, false, not, ◌&&◌, ◌||◌, List, [], ◌∷◌, map, Option, Some, None}
use Rattle.std.specs.Prelude.{nat_le, if◌then◌else◌}
use Rattle.std.specs.List.{list_any}
use Rattle.fx_terms.specs.declared.terms.Term.{Term}
use Rattle.fx_algebra.specs.Measures.{Measured, all_good, all_signed_good, is_chain, is_one, is_some, is_three, is_two, measure_step, measured, most, most_signed, placed, takes}
use Rattle.fx_algebra.specs.Printed.{is_call, rank}
use Rattle.fx_algebra.specs.Solutions.{Bindings, term_of}
use Rattle.fx_algebra.specs.Units.{any_true, bound_step as bound_level, calls_bound, is_bound}
use Rattle.fx_algebra.specs.declared.expressions.Expr.{Expr, Expr-F, fold-roll-Expr, ind-Expr, map-Expr, roll-Expr}
use Rattle.fx_algebra.specs.declared.expressions.Function.{Function}
use Rattle.fx_algebra.specs.declared.expressions.Function.TheVariants as function
use Rattle.fx_algebra.specs.declared.expressions.Sign.{Sign}
use Rattle.fx_renaming.specs.Branches.{BoundKeepsTheMeasure, bound_expr, bound_step, expr_by}

-- two measures of one size
pub record SameMeasure (m n : Measured) : Type 0 where
  pub nest : m.nest ≡ n.nest
  pub good : m.good ≡ n.good
  pub ranks : rank m.level ≡ rank n.level
  pub calls : is_call m.level ≡ is_call n.level

itself : (m : Measured) → SameMeasure m m
itself m = record { nest = refl; good = refl; ranks = refl; calls = refl }

placed_same : (place : ℕ) (m n : Measured) → SameMeasure m n → placed place m ≡ placed place n
unfolding placed
placed_same place m n h = λ i. if nat_le place (h.ranks i) then h.nest i else suc (h.nest i)

either_none : (b c : Bool) → (b || c) ≡ false → (b ≡ false) × (c ≡ false)
either_none true c h = cc
either_none false c h = (refl, h)

module _ (rename : List ℕ → List ℕ) (row : Bindings) where
  abbrev bound : Expr → Expr
  bound = bound_expr rename row

  abbrev IsSame : Expr → Type 0
  IsSame e = calls_bound e ≡ false → SameMeasure (measured (bound e)) (measured e)

  abbrev Same : Type 0
  Same = (e : Expr) × IsSame e

  abbrev exprs : List Same → List Expr
  exprs es = map (λ e. e.0) es

  abbrev addends : List (Sign × Same) → List (Sign × Expr)
  addends ps = map (λ (p : Sign × Same). (p.0, p.1.0)) ps

  abbrev bound_addends : List (Sign × Expr) → List (Sign × Expr)
  bound_addends ps = map (λ (p : Sign × Expr). (p.0, bound p.1)) ps

  abbrev measures : List Expr → List Measured
  measures es = map measured es

  abbrev signed_measures : List (Sign × Expr) → List (Sign × Measured)
  signed_measures ps = map (λ (p : Sign × Expr). (p.0, measured p.1)) ps

  abbrev no_calls : List (Sign × Expr) → Bool
  no_calls ps = list_any (λ (p : Sign × Bool). p.1) (map (λ (p : Sign × Expr). (p.0, calls_bound p.1)) ps)

  most_same : (place : ℕ) (es : List Same) → any_true (map calls_bound (exprs es)) ≡ false → most place (measures (map bound (exprs es))) ≡ most place (measures (exprs es))
  most_same place [] h = refl
  most_same place (e ∷ es) h =
      let k = either_none (calls_bound e.0) (any_true (map calls_bound (exprs es))) h in
      ap (λ (n : ℕ). max n (most place (measures (map bound (exprs es))))) (placed_same place (measured (bound e.0)) (measured e.0) (e.1 k.0)) ∙ ap (λ (n : ℕ). max (placed place (measured e.0)) n) (most_same place es k.1)

  good_same : (es : List Same) → any_true (map calls_bound (exprs es)) ≡ false → all_good (measures (map bound (exprs es))) ≡ all_good (measures (exprs es))
  good_same [] h = refl
  good_same (e ∷ es) h =
      let k = either_none (calls_bound e.0) (any_true (map calls_bound (exprs es))) h in
      ap (λ (b : Bool). b && all_good (measures (map bound (exprs es)))) (e.1 k.0).good ∙ ap (λ (b : Bool). (measured e.0).good && b) (good_same es k.1)

  signed_most : (ps : List (Sign × Same)) → no_calls (addends ps) ≡ false → most_signed (signed_measures (bound_addends (addends ps))) ≡ most_signed (signed_measures (addends ps))
  signed_most [] h = refl
  signed_most (p ∷ ps) h =
      let k = either_none (calls_bound p.1.0) (no_calls (addends ps)) h in
      ap (λ (n : ℕ). max n (most_signed (signed_measures (bound_addends (addends ps))))) (placed_same 4 (measured (bound p.1.0)) (measured p.1.0) (p.1.1 k.0)) ∙ ap (λ (n : ℕ). max (placed 4 (measured p.1.0)) n) (signed_most ps k.1)

  signed_good : (ps : List (Sign × Same)) → no_calls (addends ps) ≡ false → all_signed_good (signed_measures (bound_addends (addends ps))) ≡ all_signed_good (signed_measures (addends ps))
  signed_good [] h = refl
  signed_good (p ∷ ps) h =
      let k = either_none (calls_bound p.1.0) (no_calls (addends ps)) h in
      ap (λ (b : Bool). b && all_signed_good (signed_measures (bound_addends (addends ps)))) (p.1.1 k.0).good ∙ ap (λ (b : Bool). (measured p.1.0).good && b) (signed_good ps k.1)

  -- -- how many parts there are

  some_same : (es : List Same) → is_some (measures (map bound (exprs es))) ≡ is_some (measures (exprs es))
  some_same [] = refl
  some_same (e ∷ es) = refl

  some_signed : (ps : List (Sign × Same)) → is_some (signed_measures (bound_addends (addends ps))) ≡ is_some (signed_measures (addends ps))
  some_signed [] = refl
  some_signed (p ∷ ps) = refl

  chain_same : (es : List Same) → is_chain (measures (map bound (exprs es))) ≡ is_chain (measures (exprs es))
  chain_same [] = refl
  chain_same (e ∷ es) = some_same es

  one_same : (es : List Same) → is_one (measures (map bound (exprs es))) ≡ is_one (measures (exprs es))
  one_same [] = refl
  one_same (e ∷ es) = ap not (some_same es)

  two_same : (es : List Same) → is_two (measures (map bound (exprs es))) ≡ is_two (measures (exprs es))
  two_same [] = refl
  two_same (e ∷ es) = one_same es

  three_same : (es : List Same) → is_three (measures (map bound (exprs es))) ≡ is_three (measures (exprs es))
  three_same [] = refl
  three_same (e ∷ es) = two_same es

  takes_same : (f : Function) (es : List Same) → is_bound f ≡ false → takes f (measures (map bound (exprs es))) ≡ takes f (measures (exprs es))
  takes_same function.Bound es h = cc
  takes_same function.Coalesce es h = refl
  takes_same function.If es h = three_same es
  takes_same function.Str es h = one_same es
  takes_same function.Lang es h = one_same es
  takes_same function.Datatype es h = one_same es
  takes_same function.StrLen es h = one_same es
  takes_same function.IsIri es h = one_same es
  takes_same function.IsLiteral es h = one_same es
  takes_same function.IsBlank es h = one_same es
  takes_same function.IsNumeric es h = one_same es
  takes_same function.LangMatches es h = two_same es
  takes_same function.SameTerm es h = two_same es
  takes_same function.Contains es h = two_same es
  takes_same function.StrStarts es h = two_same es
  takes_same function.StrEnds es h = two_same es

  -- -- one layer

  by_layer : (x y : Expr-F Expr) → bound_step rename row (map-Expr Expr Expr bound x) ≡ roll-Expr y
      → (bound_level (map-Expr Expr Bool calls_bound x) ≡ false → SameMeasure (measure_step (map-Expr Expr Measured measured y)) (measure_step (map-Expr Expr Measured measured x))) → IsSame (roll-Expr x)
  by_layer x y is f h =
      subst (λ (m : Measured). SameMeasure m (measured (roll-Expr x))) (sym (ap measured (fold-roll-Expr Expr (bound_step rename row) x ∙ is) ∙ fold-roll-Expr Measured measure_step y))
      (subst (λ (m : Measured). SameMeasure (measure_step (map-Expr Expr Measured measured y)) m) (sym (fold-roll-Expr Measured measure_step x)) (f (sym (fold-roll-Expr Bool bound_level x) ∙ h)))

  variable_same : (name : List ℕ) (o : Option Term) → SameMeasure (measured (expr_by rename name o)) (measured (roll-Expr (Expr-F.Variable name)))
  variable_same name (Some t) =
      subst (λ (m : Measured). SameMeasure m (measured (roll-Expr (Expr-F.Variable name)))) (sym (fold-roll-Expr Measured measure_step (Expr-F.Constant t)))
      (subst (λ (m : Measured). SameMeasure (measure_step (Expr-F.Constant t)) m) (sym (fold-roll-Expr Measured measure_step (Expr-F.Variable name))) (record { nest = refl; good = refl; ranks = refl; calls = refl }))
  variable_same name None =
      subst (λ (m : Measured). SameMeasure m (measured (roll-Expr (Expr-F.Variable name)))) (sym (fold-roll-Expr Measured measure_step (Expr-F.Variable (rename name))))
      (subst (λ (m : Measured). SameMeasure (measure_step (Expr-F.Variable (rename name))) m) (sym (fold-roll-Expr Measured measure_step (Expr-F.Variable name))) (record { nest = refl; good = refl; ranks = refl; calls = refl }))

  layer_same : (y : Expr-F Same) → IsSame (roll-Expr (map-Expr Same Expr (λ e. e.0) y))
  layer_same (Expr-F.Variable name) = λ h. subst (λ (e : Expr). SameMeasure (measured e) (measured (roll-Expr (Expr-F.Variable name)))) (sym (fold-roll-Expr Expr (bound_step rename row) (Expr-F.Variable name))) (variable_same name (term_of row name))
  layer_same (Expr-F.Constant c) = by_layer (Expr-F.Constant c) (Expr-F.Constant c) refl (λ h. record { nest = refl; good = refl; ranks = refl; calls = refl })
  layer_same (Expr-F.Or es) =
      by_layer (Expr-F.Or (exprs es)) (Expr-F.Or (map bound (exprs es))) refl
      (λ h. record { nest = most_same 1 es h; good = ap (λ (b : Bool). b && all_good (measures (map bound (exprs es)))) (chain_same es) ∙ ap (λ (b : Bool). is_chain (measures (exprs es)) && b) (good_same es h); ranks = refl; calls = refl })
  layer_same (Expr-F.And es) =
      by_layer (Expr-F.And (exprs es)) (Expr-F.And (map bound (exprs es))) refl
      (λ h. record { nest = most_same 2 es h; good = ap (λ (b : Bool). b && all_good (measures (map bound (exprs es)))) (chain_same es) ∙ ap (λ (b : Bool). is_chain (measures (exprs es)) && b) (good_same es h); ranks = refl; calls = refl })
  layer_same (Expr-F.Not e) = by_layer (Expr-F.Not e.0) (Expr-F.Not (bound e.0)) refl (λ h. record { nest = placed_same 6 (measured (bound e.0)) (measured e.0) (e.1 h); good = (e.1 h).good; ranks = refl; calls = refl })
  layer_same (Expr-F.Positive e) = by_layer (Expr-F.Positive e.0) (Expr-F.Positive (bound e.0)) refl (λ h. record { nest = placed_same 6 (measured (bound e.0)) (measured e.0) (e.1 h); good = (e.1 h).good; ranks = refl; calls = refl })
  layer_same (Expr-F.Negative e) = by_layer (Expr-F.Negative e.0) (Expr-F.Negative (bound e.0)) refl (λ h. record { nest = placed_same 6 (measured (bound e.0)) (measured e.0) (e.1 h); good = (e.1 h).good; ranks = refl; calls = refl })
  layer_same (Expr-F.Compare op a b) =
      by_layer (Expr-F.Compare op a.0 b.0) (Expr-F.Compare op (bound a.0) (bound b.0)) refl
      (λ h.
      let k = either_none (calls_bound a.0) (calls_bound b.0) h in
      record {
        nest = ap (λ (n : ℕ). max n (placed 3 (measured (bound b.0)))) (placed_same 3 (measured (bound a.0)) (measured a.0) (a.1 k.0)) ∙ ap (λ (n : ℕ). max (placed 3 (measured a.0)) n) (placed_same 3 (measured (bound b.0)) (measured b.0) (b.1 k.1));
        good = ap (λ (v : Bool). v && (measured (bound b.0)).good) (a.1 k.0).good ∙ ap (λ (v : Bool). (measured a.0).good && v) (b.1 k.1).good;
        ranks = refl;
        calls = refl;
      })
  layer_same (Expr-F.Among negated a es) =
      by_layer (Expr-F.Among negated a.0 (exprs es)) (Expr-F.Among negated (bound a.0) (map bound (exprs es))) refl
      (λ h.
      let k = either_none (calls_bound a.0) (any_true (map calls_bound (exprs es))) h in
      record {
        nest = ap (λ (n : ℕ). max n (suc (most 0 (measures (map bound (exprs es)))))) (placed_same 3 (measured (bound a.0)) (measured a.0) (a.1 k.0)) ∙ ap (λ (n : ℕ). max (placed 3 (measured a.0)) (suc n)) (most_same 0 es k.1);
        good = ap (λ (v : Bool). v && all_good (measures (map bound (exprs es)))) (a.1 k.0).good ∙ ap (λ (v : Bool). (measured a.0).good && v) (good_same es k.1);
        ranks = refl;
        calls = refl;
      })
  layer_same (Expr-F.Sum a ps) =
      by_layer (Expr-F.Sum a.0 (addends ps)) (Expr-F.Sum (bound a.0) (bound_addends (addends ps))) refl
      (λ h.
      let k = either_none (calls_bound a.0) (no_calls (addends ps)) h in
      record {
        nest = ap (λ (n : ℕ). max n (most_signed (signed_measures (bound_addends (addends ps))))) (placed_same 4 (measured (bound a.0)) (measured a.0) (a.1 k.0)) ∙ ap (λ (n : ℕ). max (placed 4 (measured a.0)) n) (signed_most ps k.1);
        good =
            ap (λ (v : Bool). v && (is_some (signed_measures (bound_addends (addends ps))) && all_signed_good (signed_measures (bound_addends (addends ps))))) (a.1 k.0).good
            ∙ ap (λ (v : Bool). (measured a.0).good && (v && all_signed_good (signed_measures (bound_addends (addends ps))))) (some_signed ps)
            ∙ ap (λ (v : Bool). (measured a.0).good && (is_some (signed_measures (addends ps)) && v)) (signed_good ps k.1);
        ranks = refl;
        calls = refl;
      })
  layer_same (Expr-F.Product es) =
      by_layer (Expr-F.Product (exprs es)) (Expr-F.Product (map bound (exprs es))) refl
      (λ h. record { nest = most_same 5 es h; good = ap (λ (b : Bool). b && all_good (measures (map bound (exprs es)))) (chain_same es) ∙ ap (λ (b : Bool). is_chain (measures (exprs es)) && b) (good_same es h); ranks = refl; calls = refl })
  layer_same (Expr-F.Call f es) =
      by_layer (Expr-F.Call f (exprs es)) (Expr-F.Call f (map bound (exprs es))) refl
      (λ h.
      let k = either_none (is_bound f) (any_true (map calls_bound (exprs es))) h in
      record {
        nest = ap suc (most_same 0 es k.1);
        good = ap (λ (v : Bool). v && all_good (measures (map bound (exprs es)))) (takes_same f es k.0) ∙ ap (λ (v : Bool). takes f (measures (exprs es)) && v) (good_same es k.1);
        ranks = refl;
        calls = refl;
      })

  pub measure_same : (e : Expr) → IsSame e
  measure_same = ind-Expr IsSame (λ x y same. subst (λ (z : Expr-F Expr). IsSame (roll-Expr z)) same (layer_same y))

pub bound_keeps_the_measure : BoundKeepsTheMeasure
bound_keeps_the_measure rename row e h =
    let same = measure_same rename row e h in
    record { good = same.good; nest = λ i. if same.calls i then same.nest i else suc (same.nest i) }
