-- The places of a query that requests are sent for, in text order: its runs of triple patterns outside SERVICE, and its occurrences of
-- SERVICE (SPARQL 1.1 Federated Query, section 2).
use Rattle.std.specs.Prelude.{ℕ, Bool, List}
use Rattle.fx_terms.specs.declared.patterns.Pattern.{Pattern}
use Rattle.fx_algebra.specs.declared.expressions.Expr.{Expr}
use Rattle.fx_algebra.specs.declared.queries.Group.{Group}

pub data Station : Type 0 where
  -- a maximal run of triple patterns of a group, with nothing but filters between them: its patterns, the filters of the whole group,
  -- and the names in scope before it, each once
  run : List Pattern → List Expr → List (List ℕ) → Station
  -- an occurrence of SERVICE: its number, whether it is silent, its IRI and its group
  service : ℕ → Bool → List ℕ → Group → Station
