-- What the tests on a filter's parts say.
use Rattle.std.specs.Prelude.{ℕ, Bool, List, map}
use Rattle.std.specs.List.{list_all, list_any}
use Rattle.fx_algebra.specs.Measures.{measured, most, most_signed}
use Rattle.fx_algebra.specs.Scopes.{is_among}
use Rattle.fx_algebra.specs.Units.{calls_bound, expr_names}
use Rattle.fx_algebra.specs.declared.expressions.Expr.{Expr}
use Rattle.fx_algebra.specs.declared.expressions.Sign.{Sign}

-- all variables of an expression stand among names
abbrev pub has_names : List (List ℕ) → Expr → Bool
has_names names e = list_all (is_among names) (expr_names e)

abbrev pub have_names : List (List ℕ) → List Expr → Bool
have_names names es = list_all (has_names names) es

abbrev pub signed_have_names : List (List ℕ) → List (Sign × Expr) → Bool
signed_have_names names parts = list_all (λ (part : Sign × Expr). has_names names part.1) parts

-- BOUND is called in an expression
abbrev pub call_bound : List Expr → Bool
call_bound es = list_any calls_bound es

abbrev pub signed_call_bound : List (Sign × Expr) → Bool
signed_call_bound parts = list_any (λ (part : Sign × Expr). calls_bound part.1) parts

-- how many brackets are open at once in expressions
abbrev pub most_of : ℕ → List Expr → ℕ
most_of place es = most place (map measured es)

abbrev pub most_of_signed : List (Sign × Expr) → ℕ
most_of_signed parts = most_signed (map (λ (part : Sign × Expr). (part.0, measured part.1)) parts)
