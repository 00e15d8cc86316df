-- An OPTIONAL whose group is one run: its rows, from what the run's units made of the rows on its left under their numbers.
use Rattle.std.specs.Prelude.{◌≡◌, ℕ, ◌==◌, List, [], ◌∷◌, ◌++◌, filter, length, All, IsTrue, IsPermutation, Contains}
use Rattle.std.specs.List.Sorted.{IsStrictlySortedBy}
use Rattle.std.proofs.Common.{suc}
use Rattle.fx_terms.specs.Triples.{triple_cmp}
use Rattle.fx_terms.specs.declared.triples.Triple.{Triple}
use Rattle.fx_terms.specs.declared.patterns.Pattern.{Pattern}
use Rattle.fx_algebra.specs.BasicGraphPatterns.{bgp}
use Rattle.fx_algebra.specs.Groups.{one_empty}
use Rattle.fx_algebra.specs.Operators.{filtered, left_join, or_itself}
use Rattle.fx_algebra.specs.Solutions.{Bindings, rises}
use Rattle.fx_algebra.specs.declared.expressions.Expr.{Expr}
use Rattle.fx_algebra.specs.declared.units.Row.{Row}
use Rattle.fx_algebra.specs.declared.units.Unit as unit
use Rattle.fx_plan.specs.Plans.{plan}
use Rattle.fx_steps.specs.Steps.{HasItsVariables, numbered, solutions_of, stepped, unit_filters, unit_patterns}

-- what was found under a number, in order
abbrev pub behind : ℕ → List Row → List Bindings
behind number found = solutions_of (filter (λ r. r.origin == number) found)

-- for each row of the left, numbered from a number on, what was found under its number on which the conditions hold, or the row itself
-- where there is none
abbrev pub optional_rows : List Expr → ℕ → List Bindings → List Row → List Bindings
optional_rows conditions number [] found = []
optional_rows conditions number (s ∷ left) found = or_itself s (filtered conditions (behind number found)) ++ optional_rows conditions (suc number) left found

-- ---- laws

-- they are the rows of the left join with the run that the units are of, where the units' filters are among the conditions
abbrev pub OptionalIsTheLeftJoin : Type 0
OptionalIsTheLeftJoin = (graph : List Triple) (us : List unit.Unit) (run : List Pattern) (conditions : List Expr) (left : List Bindings) (found : List Row)
    → IsStrictlySortedBy triple_cmp graph
    → All (λ s. IsTrue (rises s)) left
    → All HasItsVariables us
    → All (Contains conditions) (unit_filters us)
    → IsPermutation (unit_patterns us) run
    → IsPermutation found (stepped graph us (numbered 0 left))
    → IsPermutation (optional_rows conditions 0 left found) (left_join left (bgp graph run) conditions)

-- so it is of a plan to which the filters of the group went
abbrev pub OptionalOfAPlan : Type 0
OptionalOfAPlan = (graph : List Triple) (run : List Pattern) (sources : List (List ℕ)) (filters : List Expr) (bound : List (List ℕ)) (left : List Bindings) (found : List Row)
    → IsStrictlySortedBy triple_cmp graph
    → All (λ s. IsTrue (rises s)) left
    → length run ≡ length sources
    → IsPermutation found (stepped graph (plan run sources filters bound) (numbered 0 left))
    → IsPermutation (optional_rows filters 0 left found) (left_join left (bgp graph run) filters)

-- and where the group holds filters alone
abbrev pub OptionalOfFilters : Type 0
OptionalOfFilters = (conditions : List Expr) (left : List Bindings) → IsPermutation (optional_rows conditions 0 left (numbered 0 left)) (left_join left one_empty conditions)

pub record OptionalLaws : Type 0 where
  pub left_join : OptionalIsTheLeftJoin
  pub of_a_plan : OptionalOfAPlan
  pub of_filters : OptionalOfFilters
