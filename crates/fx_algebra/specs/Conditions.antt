-- Conditions (SPARQL 1.1 section 17.2).
use Rattle.std.specs.Prelude.{Bool, List}
use Rattle.std.specs.List.{list_all}
use Rattle.fx_algebra.specs.Solutions.{Bindings}
use Rattle.fx_algebra.specs.declared.expressions.Expr.{Expr}
use Rattle.fx_algebra.specs.Values.{value, truth_of, is_true}

-- the truth of the value is true, so it is neither false nor the error
abbrev pub is_so : Bindings → Expr → Bool
is_so s e = is_true (truth_of (value e s))

-- every condition holds on a solution
unfoldable pub holds : List Expr → Bindings → Bool
holds conditions s = list_all (is_so s) conditions
