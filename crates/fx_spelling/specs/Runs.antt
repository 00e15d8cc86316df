-- What the runs of a query hold: triples and expressions of the grammar.
use Rattle.std.specs.Prelude.{◌≡◌, ◌<◌, ℕ, true, List, length, All}
use Rattle.fx_terms.specs.declared.patterns.Pattern.{Pattern}
use Rattle.fx_algebra.specs.Cuts.{stations}
use Rattle.fx_algebra.specs.Measures.{measured}
use Rattle.fx_algebra.specs.Printed.{condition, printed}
use Rattle.fx_algebra.specs.Stations as station
use Rattle.fx_algebra.specs.declared.expressions.Expr.{Expr}
use Rattle.fx_algebra.specs.declared.queries.Query.{Query}
use Rattle.fx_grammar.specs.Accepted.{Accepted}
use Rattle.fx_spelling.specs.Printable.{AreFine, IsTriple}

-- an expression of the grammar: its names and its terms are those of their types
pub record IsExpression (e : Expr) : Type 0 where
  pub good : (measured e).good ≡ true
  pub words : AreFine (condition (printed e))

-- a run of the grammar: it has a pattern, its patterns are triples, and its filters are expressions
pub record IsRun (ps : List Pattern) (filters : List Expr) : Type 0 where
  pub some : 0 < length ps
  pub triples : All IsTriple ps
  pub expressions : All IsExpression filters

abbrev pub HasRun : station.Station → Type 0
HasRun (station.run ps filters before) = IsRun ps filters
HasRun (station.service number silent iri g) = Unit {0}

-- the law: where some text is accepted as a query, each run among its stations is one of the grammar
abbrev pub RunsAreOfTheGrammar : Type 0
RunsAreOfTheGrammar = (text : List ℕ) (q : Query) → Accepted text q → All HasRun (stations q)
