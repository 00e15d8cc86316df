-- The plan of a run by its rules. (FedX: exclusive groups, and the order of joins by variables that aren't bound yet.)
use Rattle.std.specs.Prelude.{◌≡◌, ◌≢◌, ◌<◌, ◌⊎◌, ◌↔◌, ℕ, Bool, true, false, not, ◌&&◌, List, [], ◌∷◌, ◌++◌, map, filter, length, nat_lt, All, AllPairs, Contains, IsPermutation}
use Rattle.std.specs.List.{enumerate_from, flat_map, list_any, zip}
use Rattle.fx_terms.specs.declared.patterns.Pattern.{Pattern}
use Rattle.fx_algebra.specs.BasicGraphPatterns.{variables}
use Rattle.fx_algebra.specs.Units.{is_covered, is_pushable}
use Rattle.fx_algebra.specs.declared.expressions.Expr.{Expr}
use Rattle.fx_algebra.specs.declared.units.Unit as unit
use Rattle.fx_plan.specs.Plans.{Asked, free, free_names, plan}

-- ---- the run

-- a pattern of a run beside its sources, behind its place in the run
abbrev pub Spot : Type 0
Spot = ℕ × Asked

abbrev pub pattern_at : Spot → Pattern
pattern_at s = s.1.0

abbrev pub sources_at : Spot → List ℕ
sources_at s = s.1.1

abbrev pub spots : List Pattern → List (List ℕ) → List Spot
spots run sources = enumerate_from 0 (zip run sources)

-- ---- its units

-- a unit, and where in the run its patterns stand
pub record Placed : Type 0 where
  pub spots : List Spot
  pub unit : unit.Unit

abbrev pub first_of : List Spot → ℕ
first_of [] = 0
first_of (s ∷ rest) = s.0

-- the place of the first pattern of a unit
abbrev pub place : Placed → ℕ
place u = first_of u.spots

-- all that one member is the only source of, of which there is one at least, in the order of the run
pub record IsGroup (run : List Spot) (u : Placed) : Type 0 where
  pub member : ℕ
  pub kind : u.unit.group ≡ true
  pub alone : u.unit.members ≡ member ∷ []
  pub some : 0 < length u.spots
  pub all : (s : Spot) → Contains u.spots s ↔ (Contains run s × (sources_at s ≡ member ∷ []))
  pub rises : AllPairs (λ s t. s.0 < t.0) u.spots

-- one pattern, of which no member is the only source
pub record IsSingle (u : Placed) : Type 0 where
  pub spot : Spot
  pub kind : u.unit.group ≡ false
  pub alone : u.spots ≡ spot ∷ []
  pub members : u.unit.members ≡ sources_at spot
  pub several : (m : ℕ) → sources_at spot ≢ m ∷ []

-- ---- their order

-- of two units with as many free variables a group comes before a single, and of two of a kind the one whose first pattern comes first
abbrev pub IsBeforeAsFree : Placed → Placed → Type 0
IsBeforeAsFree u v = ((u.unit.group ≡ true) × (v.unit.group ≡ false)) ⊎ ((u.unit.group ≡ v.unit.group) × (place u < place v))

-- where some names are known, the unit with fewer free variables comes before
abbrev pub IsBefore : List (List ℕ) → Placed → Placed → Type 0
IsBefore known u v = (free known u.unit < free known v.unit) ⊎ ((free known u.unit ≡ free known v.unit) × IsBeforeAsFree u v)

-- the names that units bind
abbrev pub names_of : List Placed → List (List ℕ)
names_of us = flat_map (λ u. variables u.unit.patterns) us

-- ---- filters

-- a unit whose first pattern comes sooner than that of another has all the variables of a filter
abbrev pub has_sooner : Expr → Placed → Placed → Bool
has_sooner e u v = nat_lt (place v) (place u) && is_covered v.unit.patterns e

-- a filter goes along with a unit: it may, all its variables stand in the unit's patterns, and no unit has them sooner
abbrev pub goes_along : List Placed → Placed → Expr → Bool
goes_along units u e = is_pushable e && (is_covered u.unit.patterns e && not (list_any (has_sooner e u) units))

-- ---- the plan

-- units go by the rules of the plan of a run, with these conditions as the filters of its group, where names are bound before it
pub record IsPlanned (run : List Spot) (conditions : List Expr) (bound : List (List ℕ)) (units : List Placed) : Type 0 where
  -- they ask for the patterns at their spots, and for each of the run once
  pub patterns : All (λ u. u.unit.patterns ≡ map pattern_at u.spots) units
  pub whole : IsPermutation (flat_map (λ u. u.spots) units) run
  -- each is a group or a single
  pub kinds : All (λ u. IsGroup run u ⊎ IsSingle u) units
  -- each comes before all behind it, where the names are known that were bound before the run, and those that the units in front bind
  pub order : (front : List Placed) (u : Placed) (behind : List Placed) → units ≡ front ++ (u ∷ behind) → All (IsBefore (bound ++ names_of front) u) behind
  -- it has the filters that go along with it
  pub filters : All (λ u. u.unit.filters ≡ filter (goes_along units u) conditions) units

-- the plan goes by them, with some spots for each of its units
abbrev pub PlanGoesByItsRules : Type 0
PlanGoesByItsRules = (run : List Pattern) (sources : List (List ℕ)) (filters : List Expr) (bound : List (List ℕ)) →
    (units : List Placed) × (plan run sources filters bound ≡ map (λ u. u.unit) units) × IsPlanned (spots run sources) filters bound units

-- and no other list of units does
abbrev pub OnlyThePlanGoesByThem : Type 0
OnlyThePlanGoesByThem = (run : List Pattern) (sources : List (List ℕ)) (filters : List Expr) (bound : List (List ℕ)) (units : List Placed) →
    IsPlanned (spots run sources) filters bound units → map (λ u. u.unit) units ≡ plan run sources filters bound

-- ---- variables that are free

-- each that stands in the patterns and isn't known, once
pub record AreFree (known : List (List ℕ)) (ps : List Pattern) (names : List (List ℕ)) : Type 0 where
  pub once : AllPairs ◌≢◌ names
  pub free : (name : List ℕ) → Contains names name ↔ (Contains (variables ps) name × (Contains known name → ⊥))

abbrev pub FreeNamesAreFree : Type 0
FreeNamesAreFree = (known : List (List ℕ)) (ps : List Pattern) → AreFree known ps (free_names known ps)
