-- The plan of a run of triple patterns: the units that the run is asked for by, the filters that go with them, and the order
-- in which they are taken. (FedX: exclusive groups, and the order of joins by variables that aren't bound yet.)
use Rattle.std.specs.Prelude.{ℕ, ◌==◌, Bool, true, false, not, ◌&&◌, ◌||◌, List, [], ◌∷◌, ◌++◌, map, filter, length, nat_lt, Option, None, Some, if◌then◌else◌}
use Rattle.std.specs.List.{zip}
use Rattle.std.proofs.Common.{zero, suc}
use Rattle.fx_terms.specs.declared.patterns.Pattern.{Pattern}
use Rattle.fx_algebra.specs.BasicGraphPatterns.{variables}
use Rattle.fx_algebra.specs.Scopes.{is_among, once}
use Rattle.fx_algebra.specs.Units.{is_covered, is_empty, is_pushable}
use Rattle.fx_algebra.specs.declared.expressions.Expr.{Expr}
use Rattle.fx_algebra.specs.declared.units.Unit as unit

-- ---- the units by position

-- a pattern beside the numbers of the members that have anything for it
abbrev pub Asked : Type 0
Asked = Pattern × List ℕ

abbrev pub only_member : ℕ → List ℕ → Option ℕ
only_member m [] = Some m
only_member m (k ∷ ks) = None

-- the member that a pattern has as its only source, if it has one source
abbrev pub only_source : List ℕ → Option ℕ
only_source [] = None
only_source (m ∷ ms) = only_member m ms

-- whether a member is the only source
abbrev pub is_only : ℕ → List ℕ → Bool
is_only m [] = false
is_only m (k ∷ ks) = k == m && is_empty ks

abbrev pub group_of : ℕ → List Pattern → unit.Unit
group_of m ps = record { patterns = ps; filters = []; members = m ∷ []; group = true }

abbrev pub single_of : Pattern → List ℕ → unit.Unit
single_of p ms = record { patterns = p ∷ []; filters = []; members = ms; group = false }

-- the patterns that a member is the only source of
abbrev pub patterns_of : ℕ → List Asked → List Pattern
patterns_of m asked = map (λ a. a.0) (filter (λ a. is_only m a.1) asked)

-- whether a unit is the group of a member
abbrev pub is_group_of : ℕ → unit.Unit → Bool
is_group_of m u = u.group && is_only m u.members

-- the unit of a pattern in front of the units of those behind it: a group takes along all that its member is the only source of
abbrev pub in_front : Asked → List Asked → Option ℕ → List unit.Unit → List unit.Unit
in_front a rest None us = single_of a.0 a.1 ∷ us
in_front a rest (Some m) us = group_of m (a.0 ∷ patterns_of m rest) ∷ filter (λ u. not (is_group_of m u)) us

-- the units of patterns, each at the place of its first pattern: for each member one group of the patterns that it is the only
-- source of, and a single for each other pattern
abbrev pub by_position : List Asked → List unit.Unit
by_position [] = []
by_position (a ∷ rest) = in_front a rest (only_source a.1) (by_position rest)

-- ---- the filters

abbrev pub with_filters : unit.Unit → List Expr → unit.Unit
with_filters u es = record { patterns = u.patterns; filters = es; members = u.members; group = u.group }

-- each unit has the filters all of whose variables stand in its patterns, and leaves the others to the units behind it
abbrev pub shared : List Expr → List unit.Unit → List unit.Unit
shared es [] = []
shared es (u ∷ us) = with_filters u (filter (is_covered u.patterns) es) ∷ shared (filter (λ e. not (is_covered u.patterns e)) es) us

-- the filters that may be pushed, each in the first unit that holds its variables
abbrev pub pushed : List Expr → List unit.Unit → List unit.Unit
pushed es us = shared (filter is_pushable es) us

-- ---- the order

-- the variables of patterns, each once, without those that are known
abbrev pub free_names : List (List ℕ) → List Pattern → List (List ℕ)
free_names known ps = filter (λ name. not (is_among known name)) (once (variables ps))

abbrev pub free : List (List ℕ) → unit.Unit → ℕ
free known u = length (free_names known u.patterns)

-- whether a unit is taken before one of an earlier position: it has fewer free variables, or as many and is a group, and the
-- other is a single
abbrev pub is_sooner : List (List ℕ) → unit.Unit → unit.Unit → Bool
is_sooner known u earlier = nat_lt (free known u) (free known earlier) || (free known u == free known earlier && (u.group && not earlier.group))

-- the unit that is taken next, and the others, where a first one and those behind it are left
abbrev pub next : List (List ℕ) → unit.Unit → List unit.Unit → unit.Unit × List unit.Unit
next known u [] = (u, [])
next known u (v ∷ vs) =
    let later = next known v vs in
    if is_sooner known later.0 u then (later.0, u ∷ later.1) else (u, v ∷ vs)

-- the units in the order in which a number of them are taken: what a unit binds is known from then on
abbrev pub taken : ℕ → List (List ℕ) → List unit.Unit → List unit.Unit
taken zero known us = []
taken (suc n) known [] = []
taken (suc n) known (u ∷ us) = let first = next known u us in first.0 ∷ taken n (known ++ variables first.0.patterns) first.1

abbrev pub in_order : List (List ℕ) → List unit.Unit → List unit.Unit
in_order known us = taken (length us) known us

-- the plan of a run whose patterns have sources, with the filters of its group, where names are bound before it
abbrev pub plan : List Pattern → List (List ℕ) → List Expr → List (List ℕ) → List unit.Unit
plan run sources filters bound = in_order bound (pushed filters (by_position (zip run sources)))
