-- The steps of a run: the rows that enter each unit of its plan, and the rows behind the last. (FedX: bound joins.)
use Rattle.std.specs.Prelude.{◌≡◌, ℕ, true, List, [], ◌∷◌, map, length, get_or, All, IsTrue, IsPermutation}
use Rattle.std.specs.List.{flat_map}
use Rattle.std.specs.List.Sorted.{IsStrictlySortedBy}
use Rattle.std.proofs.Common.{suc}
use Rattle.fx_terms.specs.Triples.{triple_cmp}
use Rattle.fx_terms.specs.declared.triples.Triple.{Triple}
use Rattle.fx_terms.specs.declared.patterns.Pattern.{Pattern}
use Rattle.fx_algebra.specs.BasicGraphPatterns.{bgp}
use Rattle.fx_algebra.specs.Operators.{filtered, join}
use Rattle.fx_algebra.specs.Solutions.{Bindings, rises}
use Rattle.fx_algebra.specs.Units.{is_covered, row_of, step}
use Rattle.fx_algebra.specs.declared.expressions.Expr.{Expr}
use Rattle.fx_algebra.specs.declared.units.Row.{Row}
use Rattle.fx_algebra.specs.declared.units.Unit as unit
use Rattle.fx_plan.specs.Plans.{plan}

-- solutions as rows, numbered from a number on
abbrev pub numbered : ℕ → List Bindings → List Row
numbered n [] = []
numbered n (s ∷ solutions) = row_of n s ∷ numbered (suc n) solutions

abbrev pub solutions_of : List Row → List Bindings
solutions_of rows = map (λ row. row.solution) rows

-- the rows that enter each of the units, where these enter the first
abbrev pub entering : List Triple → List unit.Unit → List Row → List (List Row)
entering graph [] rows = []
entering graph (u ∷ us) rows = rows ∷ entering graph us (step graph u rows)

-- the rows that enter the unit of a number, from 0: the seeds under their numbers, and then what the unit before makes of its own
abbrev pub inputs : List Triple → List unit.Unit → List Bindings → ℕ → List Row
inputs graph us seeds k = get_or (entering graph us (numbered 0 seeds)) k []

-- the rows behind the last unit
abbrev pub stepped : List Triple → List unit.Unit → List Row → List Row
stepped graph [] rows = rows
stepped graph (u ∷ us) rows = stepped graph us (step graph u rows)

abbrev pub unit_patterns : List unit.Unit → List Pattern
unit_patterns us = flat_map (λ u. u.patterns) us

-- the filters that go with units
abbrev pub unit_filters : List unit.Unit → List Expr
unit_filters us = flat_map (λ u. u.filters) us

-- all variables of a unit's filters stand in its patterns
abbrev pub HasItsVariables : unit.Unit → Type 0
HasItsVariables u = All (λ e. is_covered u.patterns e ≡ true) u.filters

-- ---- laws

-- the rows behind units are those of the join of the seeds with the run that the units are of, on which the units' filters hold
abbrev pub StepsAreTheJoin : Type 0
StepsAreTheJoin = (graph : List Triple) (us : List unit.Unit) (run : List Pattern) (seeds : List Bindings)
    → IsStrictlySortedBy triple_cmp graph
    → All (λ s. IsTrue (rises s)) seeds
    → All HasItsVariables us
    → IsPermutation (unit_patterns us) run
    → IsPermutation (solutions_of (stepped graph us (numbered 0 seeds))) (filtered (unit_filters us) (join seeds (bgp graph run)))

-- a plan asks for each pattern of its run, as often as it stands there
abbrev pub PlanIsOfTheRun : Type 0
PlanIsOfTheRun = (run : List Pattern) (sources : List (List ℕ)) (filters : List Expr) (bound : List (List ℕ)) → length run ≡ length sources → IsPermutation (unit_patterns (plan run sources filters bound)) run

-- so the rows behind a plan are those of the join with its run, whatever the sources and their order
abbrev pub PlanIsTheJoin : Type 0
PlanIsTheJoin = (graph : List Triple) (run : List Pattern) (sources : List (List ℕ)) (filters : List Expr) (bound : List (List ℕ)) (seeds : List Bindings)
    → IsStrictlySortedBy triple_cmp graph
    → All (λ s. IsTrue (rises s)) seeds
    → length run ≡ length sources
    → IsPermutation (solutions_of (stepped graph (plan run sources filters bound) (numbered 0 seeds))) (filtered (unit_filters (plan run sources filters bound)) (join seeds (bgp graph run)))
