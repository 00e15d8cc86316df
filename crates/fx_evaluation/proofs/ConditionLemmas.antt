-- Filters before the end of their group: whether a row binds their variables, and which rows may go.
use Rattle.std.proofs.Common.{◌≡◌, ◌∙◌, ap, sym, subst, refl, inl, inr, ℕ, ◌<◌, Bool, true, false, not, ◌&&◌, ◌||◌, List, [], ◌∷◌, ◌++◌, map, filter, length, get_or, is_some, IsTrue, IsPermutation}
use Rattle.std.specs.Prelude.{Contains}
use Rattle.std.specs.List.{AllByRecursion, list_all, flat_map}
use Rattle.std.proofs.lemmas.List.Folds.{list_all-append}
use Rattle.std.proofs.lemmas.List.Elements.{All-from_recursion}
use Rattle.std.proofs.lemmas.List.Sorted.{IsPermutation-refl, IsPermutation-sym}
use Rattle.fx_terms.proofs.SetLemmas.{Among}
use Rattle.fx_algebra.specs.Conditions.{is_so}
use Rattle.fx_algebra.specs.Scopes.{all_of}
use Rattle.fx_algebra.specs.Solutions.{Bindings, term_of}
use Rattle.fx_algebra.specs.Units.{expr_names, names_step}
use Rattle.fx_algebra.specs.declared.expressions.Expr.{Expr, Expr-F, fold-roll-Expr}
use Rattle.fx_algebra.specs.declared.expressions.Expr.TheVariants.{Or, And, Compare as Compares, Among as Amongs, Sum, Product, Call, rolls-Or, rolls-And, rolls-Compare, rolls-Among, rolls-Sum, rolls-Product, rolls-Call}
use Rattle.fx_algebra.specs.declared.expressions.Compare.{Compare}
use Rattle.fx_algebra.specs.declared.expressions.Function.{Function}
use Rattle.fx_algebra.specs.declared.expressions.Sign.{Sign}
use Rattle.fx_steps.specs.Fewer.{AreFewer, IsGone}
use Rattle.fx_steps.proofs.FewerLemmas.{fewer_laws}
use Rattle.fx_steps.proofs.GroupLemmas.{split_rows}
use Rattle.fx_steps.proofs.StepLemmas.{in_filter}
use Rattle.fx_evaluation.specs.Conditions.{binds, binds_all, binds_name, binds_signed, stays}

-- ---- names

all_names : (row : Bindings) (es : List Expr) → list_all (binds_name row) (all_of (map expr_names es)) ≡ binds_all row es
all_names row [] = refl
all_names row (e ∷ es) = list_all-append (binds_name row) (expr_names e) (all_of (map expr_names es)) ∙ ap (λ b. binds row e && b) (all_names row es)

abbrev signed_names : List (Sign × Expr) → List (List ℕ)
signed_names parts = flat_map (λ (part : Sign × List (List ℕ)). part.1) (map (λ (part : Sign × Expr). (part.0, expr_names part.1)) parts)

all_signed_names : (row : Bindings) (parts : List (Sign × Expr)) → list_all (binds_name row) (signed_names parts) ≡ binds_signed row parts
all_signed_names row [] = refl
all_signed_names row (part ∷ parts) = list_all-append (binds_name row) (expr_names part.1) (signed_names parts) ∙ ap (λ b. binds row part.1 && b) (all_signed_names row parts)

module _ (row : Bindings) where
  abbrev test : List (List ℕ) → Bool
  test = list_all (binds_name row)

  pub has_or : (es : List Expr) → binds row (Or es) ≡ binds_all row es
  has_or es = ap (binds row) (sym (rolls-Or es)) ∙ ap test (fold-roll-Expr (List (List ℕ)) names_step (Expr-F.Or es)) ∙ all_names row es

  pub has_and : (es : List Expr) → binds row (And es) ≡ binds_all row es
  has_and es = ap (binds row) (sym (rolls-And es)) ∙ ap test (fold-roll-Expr (List (List ℕ)) names_step (Expr-F.And es)) ∙ all_names row es

  pub has_product : (es : List Expr) → binds row (Product es) ≡ binds_all row es
  has_product es = ap (binds row) (sym (rolls-Product es)) ∙ ap test (fold-roll-Expr (List (List ℕ)) names_step (Expr-F.Product es)) ∙ all_names row es

  pub has_call : (f : Function) (es : List Expr) → binds row (Call f es) ≡ binds_all row es
  has_call f es = ap (binds row) (sym (rolls-Call f es)) ∙ ap test (fold-roll-Expr (List (List ℕ)) names_step (Expr-F.Call f es)) ∙ all_names row es

  pub has_compare : (op : Compare) (l r : Expr) → binds row (Compares op l r) ≡ (binds row l && binds row r)
  has_compare op l r =
      ap (binds row) (sym (rolls-Compare op l r)) ∙ ap test (fold-roll-Expr (List (List ℕ)) names_step (Expr-F.Compare op l r))
      ∙ list_all-append (binds_name row) (expr_names l) (expr_names r)

  pub has_among : (n : Bool) (e : Expr) (es : List Expr) → binds row (Amongs n e es) ≡ (binds row e && binds_all row es)
  has_among n e es =
      ap (binds row) (sym (rolls-Among n e es)) ∙ ap test (fold-roll-Expr (List (List ℕ)) names_step (Expr-F.Among n e es))
      ∙ list_all-append (binds_name row) (expr_names e) (all_of (map expr_names es)) ∙ ap (λ b. binds row e && b) (all_names row es)

  pub has_sum : (e : Expr) (parts : List (Sign × Expr)) → binds row (Sum e parts) ≡ (binds row e && binds_signed row parts)
  has_sum e parts =
      ap (binds row) (sym (rolls-Sum e parts)) ∙ ap test (fold-roll-Expr (List (List ℕ)) names_step (Expr-F.Sum e parts))
      ∙ list_all-append (binds_name row) (expr_names e) (signed_names parts) ∙ ap (λ b. binds row e && b) (all_signed_names row parts)

-- ---- rows that may go

all_among : (P : Bindings → Type 0) (xs : List Bindings) → ((x : Bindings) → Among x xs → P x) → AllByRecursion P xs
all_among P [] f = tt
all_among P (x ∷ xs) f = (f x (inl refl), all_among P xs (λ y m. f y (inr m)))

all_bound : (s : Bindings) (names : List (List ℕ)) → list_all (binds_name s) names ≡ true → AllByRecursion (λ name. IsTrue (is_some (term_of s name))) names
all_bound s [] h = tt
all_bound s (n ∷ ns) h = let t = both_true (binds_name s n) (list_all (binds_name s) ns) h in (t.0, all_bound s ns t.1)
  where
    both_true : (b c : Bool) → (b && c) ≡ true → (b ≡ true) × (c ≡ true)
    both_true true c e = (refl, e)
    both_true false c e = cc

refused : (b c : Bool) → not (not b || c) ≡ true → (b ≡ true) × (c ≡ false)
refused true true e = cc
refused true false e = (refl, refl)
refused false c e = cc

gone_of : (conditions : List Expr) (e : Expr) (s : Bindings) → Contains conditions e → not (stays e s) ≡ true → IsGone conditions s
gone_of conditions e s own h =
    let t = refused (binds s e) (is_so s e) h in
    record { refusing = e; own = own; bound = All-from_recursion (λ name. IsTrue (is_some (term_of s name))) (expr_names e) (all_bound s (expr_names e) t.0); fails = t.1 }

pub kept_are_fewer : (conditions : List Expr) (e : Expr) (rows kept : List Bindings) → Contains conditions e → kept ≡ filter (stays e) rows → AreFewer conditions kept rows
kept_are_fewer conditions e rows kept own is =
    let others = filter (λ s. not (stays e s)) rows in
    record {
      gone = others;
      rows_are = subst (λ (v : List Bindings). IsPermutation (v ++ others) rows) (sym is) (IsPermutation-sym rows (filter (stays e) rows ++ others) (split_rows (stays e) rows));
      are_gone = All-from_recursion (IsGone conditions) others (all_among (IsGone conditions) others (λ s m. gone_of conditions e s own (in_filter (λ s. not (stays e s)) s rows m).1));
    }

pub contained_at : (es : List Expr) (e : Expr) (i : ℕ) → i < length es → e ≡ get_or es i e → Contains es e
contained_at es e i b is = (i, b, sym is)

pub kept_at : (conditions : List Expr) (e : Expr) (i : ℕ) (rows kept : List Bindings) → i < length conditions → e ≡ get_or conditions i e → kept ≡ filter (stays e) rows → AreFewer conditions kept rows
kept_at conditions e i rows kept b is k = kept_are_fewer conditions e rows kept (contained_at conditions e i b is) k

pub all_of_them : (conditions : List Expr) (rows : List Bindings) → AreFewer conditions rows rows
all_of_them conditions rows = fewer_laws.none conditions rows rows (IsPermutation-refl rows)
