-- Laws of the plan.
use Rattle.std.specs.Prelude.{◌≡◌, ◌<◌, ◌⊎◌, ℕ, true, List, [], ◌∷◌, length, map, All}
use Rattle.std.specs.List.{zip}
use Rattle.fx_terms.specs.declared.patterns.Pattern.{Pattern}
use Rattle.fx_terms.specs.declared.triples.Triple.{Triple}
use Rattle.fx_algebra.specs.Units.{is_covered, is_pushable, sources}
use Rattle.fx_algebra.specs.declared.expressions.Expr.{Expr}
use Rattle.fx_algebra.specs.declared.units.Unit as unit
use Rattle.fx_plan.specs.Plans.{Asked, plan}

-- a pattern stands among patterns with these sources
abbrev pub IsAsked : List Asked → Asked → Type 0
IsAsked [] a = ⊥
IsAsked (b ∷ bs) a = (b ≡ a) ⊎ IsAsked bs a

-- one member, the only source of each of the patterns, of which there is one at least
pub record IsGroup (asked : List Asked) (u : unit.Unit) : Type 0 where
  pub member : ℕ
  pub alone : u.members ≡ member ∷ []
  pub some : 0 < length u.patterns
  pub only : All (λ p. IsAsked asked (p, member ∷ [])) u.patterns

-- one pattern, with its sources as members
pub record IsSingle (asked : List Asked) (u : unit.Unit) : Type 0 where
  pub pattern : Pattern
  pub alone : u.patterns ≡ pattern ∷ []
  pub its : IsAsked asked (pattern, u.members)

-- each unit is a group or a single of the run's patterns with their sources
abbrev pub UnitsAreOfTheRun : Type 0
UnitsAreOfTheRun = (run : List Pattern) (asked : List (List ℕ)) (filters : List Expr) (bound : List (List ℕ)) →
    All (λ u. IsGroup (zip run asked) u ⊎ IsSingle (zip run asked) u) (plan run asked filters bound)

-- one member, which alone has anything for each of the patterns
pub record IsExclusive (graphs : List (List Triple)) (u : unit.Unit) : Type 0 where
  pub member : ℕ
  pub alone : u.members ≡ member ∷ []
  pub some : 0 < length u.patterns
  pub only : All (λ p. sources graphs p ≡ member ∷ []) u.patterns

-- one pattern, and all that have anything for it are the members
pub record IsComplete (graphs : List (List Triple)) (u : unit.Unit) : Type 0 where
  pub pattern : Pattern
  pub alone : u.patterns ≡ pattern ∷ []
  pub all : u.members ≡ sources graphs pattern

-- where the sources are those that the graphs have, no member is left out
abbrev pub NoSourceIsLeftOut : Type 0
NoSourceIsLeftOut = (graphs : List (List Triple)) (run : List Pattern) (filters : List Expr) (bound : List (List ℕ)) →
    All (λ u. IsExclusive graphs u ⊎ IsComplete graphs u) (plan run (map (sources graphs) run) filters bound)

-- a filter that may be pushed, with all its variables in the patterns
pub record IsOwn (ps : List Pattern) (e : Expr) : Type 0 where
  pub pushable : is_pushable e ≡ true
  pub covered : is_covered ps e ≡ true

-- each filter of a unit may be pushed into it
abbrev pub FiltersAreOwn : Type 0
FiltersAreOwn = (run : List Pattern) (asked : List (List ℕ)) (filters : List Expr) (bound : List (List ℕ)) →
    All (λ u. All (IsOwn u.patterns) u.filters) (plan run asked filters bound)
