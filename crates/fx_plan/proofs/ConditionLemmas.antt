-- What the tests on an expression come to, level by level.
use Rattle.std.proofs.Common.{◌≡◌, ◌∙◌, ap, sym, refl, ℕ, max, Bool, ◌&&◌, ◌||◌, List, [], ◌∷◌, map, arith}
use Rattle.std.specs.Prelude.{nat_le, nat_lt, ◌-◌}
use Rattle.std.specs.List.{list_all, list_any, flat_map}
use Rattle.std.proofs.lemmas.Bool.Decides.{nat_tests}
use Rattle.std.proofs.lemmas.List.Folds.{list_all-append}
use Rattle.fx_algebra.specs.declared.expressions.Expr.{Expr, Expr-F, fold-roll-Expr}
use Rattle.fx_algebra.specs.declared.expressions.Expr.TheVariants.{Or, And, Compare as Compares, Among, Sum, Product, Call, rolls-Or, rolls-And, rolls-Compare, rolls-Among, rolls-Sum, rolls-Product, rolls-Call}
use Rattle.fx_algebra.specs.declared.expressions.Compare.{Compare}
use Rattle.fx_algebra.specs.declared.expressions.Function.{Function}
use Rattle.fx_algebra.specs.declared.expressions.Sign.{Sign}
use Rattle.fx_algebra.specs.Measures.{Measured, measured, measure_step, placed}
use Rattle.fx_algebra.specs.Scopes.{all_of, is_among}
use Rattle.fx_algebra.specs.Units.{any_true, bound_step, calls_bound, expr_names, is_bound, is_empty, names_step}
use Rattle.fx_plan.specs.Conditions.{call_bound, has_names, have_names, most_of_signed, signed_call_bound, signed_have_names}

-- ---- names

all_names : (names : List (List ℕ)) (es : List Expr) → list_all (is_among names) (all_of (map expr_names es)) ≡ have_names names es
all_names names [] = refl
all_names names (e ∷ es) = list_all-append (is_among names) (expr_names e) (all_of (map expr_names es)) ∙ ap (λ b. has_names names e && b) (all_names names es)

abbrev signed_names : List (Sign × Expr) → List (List ℕ)
signed_names parts = flat_map (λ (part : Sign × List (List ℕ)). part.1) (map (λ (part : Sign × Expr). (part.0, expr_names part.1)) parts)

all_signed_names : (names : List (List ℕ)) (parts : List (Sign × Expr)) → list_all (is_among names) (signed_names parts) ≡ signed_have_names names parts
all_signed_names names [] = refl
all_signed_names names (part ∷ parts) = list_all-append (is_among names) (expr_names part.1) (signed_names parts) ∙ ap (λ b. has_names names part.1 && b) (all_signed_names names parts)

module _ (names : List (List ℕ)) where
  abbrev test : List (List ℕ) → Bool
  test = list_all (is_among names)

  pub has_or : (es : List Expr) → has_names names (Or es) ≡ have_names names es
  has_or es = ap (has_names names) (sym (rolls-Or es)) ∙ ap test (fold-roll-Expr (List (List ℕ)) names_step (Expr-F.Or es)) ∙ all_names names es

  pub has_and : (es : List Expr) → has_names names (And es) ≡ have_names names es
  has_and es = ap (has_names names) (sym (rolls-And es)) ∙ ap test (fold-roll-Expr (List (List ℕ)) names_step (Expr-F.And es)) ∙ all_names names es

  pub has_product : (es : List Expr) → has_names names (Product es) ≡ have_names names es
  has_product es = ap (has_names names) (sym (rolls-Product es)) ∙ ap test (fold-roll-Expr (List (List ℕ)) names_step (Expr-F.Product es)) ∙ all_names names es

  pub has_call : (f : Function) (es : List Expr) → has_names names (Call f es) ≡ have_names names es
  has_call f es = ap (has_names names) (sym (rolls-Call f es)) ∙ ap test (fold-roll-Expr (List (List ℕ)) names_step (Expr-F.Call f es)) ∙ all_names names es

  pub has_compare : (op : Compare) (l r : Expr) → has_names names (Compares op l r) ≡ (has_names names l && has_names names r)
  has_compare op l r =
      ap (has_names names) (sym (rolls-Compare op l r)) ∙ ap test (fold-roll-Expr (List (List ℕ)) names_step (Expr-F.Compare op l r))
      ∙ list_all-append (is_among names) (expr_names l) (expr_names r)

  pub has_among : (n : Bool) (e : Expr) (es : List Expr) → has_names names (Among n e es) ≡ (has_names names e && have_names names es)
  has_among n e es =
      ap (has_names names) (sym (rolls-Among n e es)) ∙ ap test (fold-roll-Expr (List (List ℕ)) names_step (Expr-F.Among n e es))
      ∙ list_all-append (is_among names) (expr_names e) (all_of (map expr_names es)) ∙ ap (λ b. has_names names e && b) (all_names names es)

  pub has_sum : (e : Expr) (parts : List (Sign × Expr)) → has_names names (Sum e parts) ≡ (has_names names e && signed_have_names names parts)
  has_sum e parts =
      ap (has_names names) (sym (rolls-Sum e parts)) ∙ ap test (fold-roll-Expr (List (List ℕ)) names_step (Expr-F.Sum e parts))
      ∙ list_all-append (is_among names) (expr_names e) (signed_names parts) ∙ ap (λ b. has_names names e && b) (all_signed_names names parts)

-- an expression without a variable has all its variables among none
pub none_empty : (xs : List (List ℕ)) → list_all (is_among []) xs ≡ is_empty xs
none_empty [] = refl
none_empty (x ∷ xs) = refl

-- ---- BOUND

any_bound : (es : List Expr) → any_true (map calls_bound es) ≡ call_bound es
any_bound [] = refl
any_bound (e ∷ es) = ap (λ b. calls_bound e || b) (any_bound es)

any_signed_bound : (parts : List (Sign × Expr)) → list_any (λ (part : Sign × Bool). part.1) (map (λ (part : Sign × Expr). (part.0, calls_bound part.1)) parts) ≡ signed_call_bound parts
any_signed_bound [] = refl
any_signed_bound (part ∷ parts) = ap (λ b. calls_bound part.1 || b) (any_signed_bound parts)

pub bound_or : (es : List Expr) → calls_bound (Or es) ≡ call_bound es
bound_or es = ap calls_bound (sym (rolls-Or es)) ∙ fold-roll-Expr Bool bound_step (Expr-F.Or es) ∙ any_bound es

pub bound_and : (es : List Expr) → calls_bound (And es) ≡ call_bound es
bound_and es = ap calls_bound (sym (rolls-And es)) ∙ fold-roll-Expr Bool bound_step (Expr-F.And es) ∙ any_bound es

pub bound_product : (es : List Expr) → calls_bound (Product es) ≡ call_bound es
bound_product es = ap calls_bound (sym (rolls-Product es)) ∙ fold-roll-Expr Bool bound_step (Expr-F.Product es) ∙ any_bound es

pub bound_call : (f : Function) (es : List Expr) → calls_bound (Call f es) ≡ (is_bound f || call_bound es)
bound_call f es = ap calls_bound (sym (rolls-Call f es)) ∙ fold-roll-Expr Bool bound_step (Expr-F.Call f es) ∙ ap (λ b. is_bound f || b) (any_bound es)

pub bound_among : (n : Bool) (e : Expr) (es : List Expr) → calls_bound (Among n e es) ≡ (calls_bound e || call_bound es)
bound_among n e es = ap calls_bound (sym (rolls-Among n e es)) ∙ fold-roll-Expr Bool bound_step (Expr-F.Among n e es) ∙ ap (λ b. calls_bound e || b) (any_bound es)

pub bound_sum : (e : Expr) (parts : List (Sign × Expr)) → calls_bound (Sum e parts) ≡ (calls_bound e || signed_call_bound parts)
bound_sum e parts = ap calls_bound (sym (rolls-Sum e parts)) ∙ fold-roll-Expr Bool bound_step (Expr-F.Sum e parts) ∙ ap (λ b. calls_bound e || b) (any_signed_bound parts)

-- ---- brackets

pub le_max : (a b r : ℕ) → nat_le (max a b) r ≡ (nat_le a r && nat_le b r)
le_max a b r = grind (arith, nat_tests)

pub lt_room : (n r : ℕ) → nat_lt n r ≡ (nat_lt 0 r && nat_le n (r - 1))
lt_room n r = grind (arith, nat_tests)

abbrev nest_of : Expr → ℕ
nest_of e = (measured e).nest

pub nest_sum : (e : Expr) (parts : List (Sign × Expr)) → (measured (Sum e parts)).nest ≡ max (placed 4 (measured e)) (most_of_signed parts)
nest_sum e parts = ap nest_of (sym (rolls-Sum e parts)) ∙ ap (λ (m : Measured). m.nest) (fold-roll-Expr Measured measure_step (Expr-F.Sum e parts))
