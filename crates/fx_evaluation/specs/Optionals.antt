-- An OPTIONAL whose group holds triple patterns and filters alone: its rows, row by row.
use Rattle.std.specs.Prelude.{List, [], ◌∷◌}
use Rattle.fx_terms.specs.declared.patterns.Pattern.{Pattern}
use Rattle.fx_terms.specs.declared.triples.Triple.{Triple}
use Rattle.fx_algebra.specs.Evaluation.{rows_from}
use Rattle.fx_algebra.specs.Groups.{one_empty}
use Rattle.fx_algebra.specs.Operators.{filtered, or_itself}
use Rattle.fx_algebra.specs.Solutions.{Bindings}
use Rattle.fx_algebra.specs.declared.expressions.Expr.{Expr}
use Rattle.fx_algebra.specs.declared.queries.Group.{Group}
use Rattle.fx_evaluation.specs.GroupRows.{AreUnfiltered}

-- over each graph the rows of a group, before its filters, are those of the patterns, one after the other
pub record IsRunOf (group : Group) (patterns : List Pattern) : Type 0 where
  pub same : (graph : List Triple) → AreUnfiltered group graph (rows_from graph one_empty patterns)

-- what the patterns have for a row on which the conditions hold, or the row itself where that is nothing
abbrev pub matches_or_itself : List Triple → List Pattern → List Expr → Bindings → List Bindings
matches_or_itself graph patterns conditions row = or_itself row (filtered conditions (rows_from graph (row ∷ []) patterns))
