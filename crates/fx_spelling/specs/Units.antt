-- Which units of a run can be asked for, and which are asked of all the members that have anything for them.
use Rattle.std.specs.Prelude.{◌≡◌, ◌<◌, ◌⊎◌, ℕ, true, List, [], ◌∷◌, length, All, AllPairs, Contains}
use Rattle.fx_terms.specs.declared.triples.Triple.{Triple}
use Rattle.fx_terms.specs.declared.patterns.Pattern.{Pattern}
use Rattle.fx_algebra.specs.Measures.{measured}
use Rattle.fx_algebra.specs.Printed.{condition, printed}
use Rattle.fx_algebra.specs.Units.{is_pushable, is_covered, sources}
use Rattle.fx_algebra.specs.declared.expressions.Expr.{Expr}
use Rattle.fx_algebra.specs.declared.units.Unit as unit
use Rattle.fx_spelling.specs.Printable.{AreFine, IsTriple, is_verb}

-- an expression of the grammar that may be pushed, all of whose variables stand in the patterns
pub record IsPushed (ps : List Pattern) (e : Expr) : Type 0 where
  pub good : (measured e).good ≡ true
  pub words : AreFine (condition (printed e))
  pub pushable : is_pushable e ≡ true
  pub covered : is_covered ps e ≡ true

-- it has a pattern and a member, its patterns are triples of the grammar, the members rise by number, and each filter may be pushed
pub record IsFit (u : unit.Unit) : Type 0 where
  pub some : 0 < length u.patterns
  pub asked : 0 < length u.members
  pub triples : All IsTriple u.patterns
  pub rising : AllPairs ◌<◌ u.members
  pub filters : All (IsPushed u.patterns) u.filters

-- one pattern, and all that have anything for it are members
pub record IsSingle (graphs : List (List Triple)) (u : unit.Unit) : Type 0 where
  pub pattern : Pattern
  pub alone : u.patterns ≡ pattern ∷ []
  pub all : All (Contains u.members) (sources graphs pattern)

-- one member, which alone has anything for each of the patterns
pub record IsExclusive (graphs : List (List Triple)) (u : unit.Unit) : Type 0 where
  pub member : ℕ
  pub alone : u.members ≡ member ∷ []
  pub only : All (λ p. sources graphs p ≡ member ∷ []) u.patterns

-- what its members give are all the rows that the union of the graphs has for it
pub record IsSound (graphs : List (List Triple)) (u : unit.Unit) : Type 0 where
  pub fit : IsFit u
  pub complete : IsSingle graphs u ⊎ IsExclusive graphs u

-- the law: no predicate of such a unit is a literal
abbrev pub FitUnitsHaveVerbs : Type 0
FitUnitsHaveVerbs = (u : unit.Unit) → IsFit u → All (λ p. is_verb p.predicate ≡ true) u.patterns
