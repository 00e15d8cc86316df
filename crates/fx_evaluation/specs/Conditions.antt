-- Which rows a condition leaves before the end of its group: those on which it holds, and those that don't bind all its variables.
use Rattle.std.specs.Prelude.{◌≡◌, ℕ, Bool, not, ◌&&◌, ◌||◌, List, is_some}
use Rattle.std.specs.List.{list_all}
use Rattle.fx_algebra.specs.Conditions.{holds, is_so}
use Rattle.fx_algebra.specs.Solutions.{Bindings, term_of}
use Rattle.fx_algebra.specs.Units.{expr_names}
use Rattle.fx_algebra.specs.declared.expressions.Expr.{Expr}
use Rattle.fx_algebra.specs.declared.expressions.Sign.{Sign}

abbrev pub binds_name : Bindings → List ℕ → Bool
binds_name s name = is_some (term_of s name)

-- a row binds all variables of an expression
abbrev pub binds : Bindings → Expr → Bool
binds s e = list_all (binds_name s) (expr_names e)

abbrev pub binds_all : Bindings → List Expr → Bool
binds_all s es = list_all (binds s) es

abbrev pub binds_signed : Bindings → List (Sign × Expr) → Bool
binds_signed s parts = list_all (λ (part : Sign × Expr). binds s part.1) parts

-- it lacks one of them, or the condition holds
abbrev pub stays : Expr → Bindings → Bool
stays e s = not (binds s e) || is_so s e

-- the parts hold where the filters do
pub record AreAsStrict (parts filters : List Expr) : Type 0 where
  pub same : (s : Bindings) → holds parts s ≡ holds filters s

-- they hold where those before and the filters do
pub record AreStricter (parts before filters : List Expr) : Type 0 where
  pub same : (s : Bindings) → holds parts s ≡ (holds before s && holds filters s)
