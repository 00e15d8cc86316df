-- A group whose runs go by steps: filters that go with a unit are applied to the run, and again at the end of the group.
use Rattle.std.specs.Prelude.{◌≡◌, ℕ, ◌+◌, true, List, [], ◌∷◌, map, length, All, IsTrue, IsPermutation, Contains}
use Rattle.std.specs.List.Sorted.{IsStrictlySortedBy}
use Rattle.fx_terms.specs.Triples.{triple_cmp}
use Rattle.fx_terms.specs.declared.triples.Triple.{Triple}
use Rattle.fx_terms.specs.declared.patterns.Pattern.{Pattern}
use Rattle.fx_algebra.specs.BasicGraphPatterns.{bgp}
use Rattle.fx_algebra.specs.Groups.{Part, Meaning, Step, run, apply, element_meaning, group_meaning, meaning, steps_of, after}
use Rattle.fx_algebra.specs.Operators.{filtered, join}
use Rattle.fx_algebra.specs.Solutions.{Bindings, rises}
use Rattle.fx_algebra.specs.Units.{is_covered}
use Rattle.fx_algebra.specs.declared.expressions.Expr.{Expr}
use Rattle.fx_algebra.specs.declared.queries.Element.{fold-Element}
use Rattle.fx_algebra.specs.declared.queries.Group.{Group}
use Rattle.fx_plan.specs.Plans.{plan}
use Rattle.fx_steps.specs.Steps.{numbered, solutions_of, stepped}

-- a filter of the group that the patterns hold all variables of
pub record IsPushed (conditions : List Expr) (ps : List Pattern) (e : Expr) : Type 0 where
  pub own : Contains conditions e
  pub covered : is_covered ps e ≡ true

-- what comes out of a run of a group with these filters: the join of the rows before it with its patterns, where some of the filters
-- were applied to it already, in some order
pub record IsRunOut (conditions : List Expr) (graph : List Triple) (rows : List Bindings) (ps : List Pattern) (found : List Bindings) : Type 0 where
  pub filters : List Expr
  pub pushed : All (IsPushed conditions ps) filters
  pub rows_are : IsPermutation found (filtered filters (join rows (bgp graph ps)))

-- what comes out of the steps of a group so
abbrev pub ComesOut : List Expr → List Triple → ℕ → List Bindings → List Step → List Bindings → Type 0
ComesOut conditions graph number rows [] found = IsPermutation found rows
ComesOut conditions graph number rows (run ps ∷ steps) found = (next : List Bindings) × IsRunOut conditions graph rows ps next × ComesOut conditions graph number next steps found
ComesOut conditions graph number rows (apply o ∷ steps) found = (next : List Bindings) × IsPermutation next (o.rows graph number rows) × ComesOut conditions graph (number + o.services) next steps found

-- the steps of a group
abbrev pub steps_in : (List ℕ → List Triple) → List ℕ → Group → List Step
steps_in graphs down g = steps_of (map (fold-Element Part Meaning (element_meaning graphs down) group_meaning) g.elements)

-- ---- laws

-- what comes out of the steps of a group has, under the group's filters, the rows that the group has under them, whatever rows go in
abbrev pub FiltersHoldAtTheEnd : Type 0
FiltersHoldAtTheEnd = (g : Group) (graphs : List ℕ → List Triple) (down : List ℕ) (graph : List Triple) (number : ℕ) (rows found : List Bindings)
    → ComesOut (meaning graphs down g).filters graph number rows (steps_in graphs down g) found
    → IsPermutation (filtered (meaning graphs down g).filters found) (filtered (meaning graphs down g).filters (after graph number rows (steps_in graphs down g)))

-- what the steps of a run's plan give comes out of the run so
abbrev pub PlanComesOut : Type 0
PlanComesOut = (graph : List Triple) (ps : List Pattern) (sources : List (List ℕ)) (filters : List Expr) (bound : List (List ℕ)) (seeds : List Bindings)
    → IsStrictlySortedBy triple_cmp graph
    → All (λ s. IsTrue (rises s)) seeds
    → length ps ≡ length sources
    → IsRunOut filters graph seeds ps (solutions_of (stepped graph (plan ps sources filters bound) (numbered 0 seeds)))
