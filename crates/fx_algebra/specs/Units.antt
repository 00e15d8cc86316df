-- What a unit of a run gives from rows, which filters may go with it, and which members have anything for a pattern.
use Rattle.std.specs.Prelude.{◌≡◌, ◌<◌, ℕ, Bool, true, false, not, ◌&&◌, ◌||◌, List, [], ◌∷◌, ◌++◌, map, filter, length, get_or, nat_le, if◌then◌else◌}
use Rattle.std.specs.List.{flat_map, list_all, list_any, range_with_len}
use Rattle.fx_terms.specs.declared.triples.Triple.{Triple}
use Rattle.fx_terms.specs.declared.patterns.Pattern.{Pattern}
use Rattle.fx_algebra.specs.Answers.{has_rows}
use Rattle.fx_algebra.specs.BasicGraphPatterns.{bgp, variables}
use Rattle.fx_algebra.specs.Graphs.{union}
use Rattle.fx_algebra.specs.Measures.{measured, condition_nest}
use Rattle.fx_algebra.specs.Operators.{merges, filtered}
use Rattle.fx_algebra.specs.Scopes.{all_of, is_among}
use Rattle.fx_algebra.specs.Solutions.{Bindings}
use Rattle.fx_algebra.specs.declared.expressions.Expr.{Expr, Expr-F, fold-Expr}
use Rattle.fx_algebra.specs.declared.expressions.Function.{Function}
use Rattle.fx_algebra.specs.declared.expressions.Function.TheVariants as function
use Rattle.fx_algebra.specs.declared.units.Row.{Row}
use Rattle.fx_algebra.specs.declared.units.Unit as unit

-- ---- a step

abbrev pub row_of : ℕ → Bindings → Row
row_of origin s = record { origin = origin; solution = s }

-- what a row merges to with each solution of the unit's patterns over the graph that it agrees with, where the unit's filters
-- hold, under the row's number
abbrev pub row_step : List Triple → unit.Unit → Row → List Row
row_step graph u row = map (row_of row.origin) (filtered u.filters (merges (bgp graph u.patterns) row.solution))

-- the rows after a unit
abbrev pub step : List Triple → unit.Unit → List Row → List Row
step graph u rows = flat_map (row_step graph u) rows

-- ---- the filters that may go with a unit

-- the variables of one level of an expression, with those of each part, as often as they stand
abbrev pub names_step : Expr-F (List (List ℕ)) → List (List ℕ)
names_step (Expr-F.Variable name) = name ∷ []
names_step (Expr-F.Constant t) = []
names_step (Expr-F.Or parts) = all_of parts
names_step (Expr-F.And parts) = all_of parts
names_step (Expr-F.Not part) = part
names_step (Expr-F.Positive part) = part
names_step (Expr-F.Negative part) = part
names_step (Expr-F.Compare op left right) = left ++ right
names_step (Expr-F.Among negated item list) = item ++ all_of list
names_step (Expr-F.Sum first rest) = first ++ flat_map (λ part. part.1) rest
names_step (Expr-F.Product parts) = all_of parts
names_step (Expr-F.Call f args) = all_of args

-- the variables of an expression
abbrev pub expr_names : Expr → List (List ℕ)
expr_names = fold-Expr (List (List ℕ)) names_step

abbrev pub is_bound : Function → Bool
is_bound function.Bound = true
is_bound other = false

abbrev pub any_true : List Bool → Bool
any_true parts = list_any (λ part. part) parts

-- whether BOUND is called on one level of an expression, or in a part
abbrev pub bound_step : Expr-F Bool → Bool
bound_step (Expr-F.Variable name) = false
bound_step (Expr-F.Constant t) = false
bound_step (Expr-F.Or parts) = any_true parts
bound_step (Expr-F.And parts) = any_true parts
bound_step (Expr-F.Not part) = part
bound_step (Expr-F.Positive part) = part
bound_step (Expr-F.Negative part) = part
bound_step (Expr-F.Compare op left right) = left || right
bound_step (Expr-F.Among negated item list) = item || any_true list
bound_step (Expr-F.Sum first rest) = first || list_any (λ part. part.1) rest
bound_step (Expr-F.Product parts) = any_true parts
bound_step (Expr-F.Call f args) = is_bound f || any_true args

-- whether an expression calls BOUND
abbrev pub calls_bound : Expr → Bool
calls_bound = fold-Expr Bool bound_step

abbrev pub is_empty : {X : Type 0} → List X → Bool
is_empty [] = true
is_empty (x ∷ xs) = false

-- a filter that a member can be asked to apply: it has a variable and no BOUND, and at most 60 brackets are open in it at once where
-- it is printed as an element
abbrev pub is_pushable : Expr → Bool
is_pushable e = not (is_empty (expr_names e)) && (not (calls_bound e) && nat_le (condition_nest (measured e)) 60)

-- all the variables of a filter stand in patterns
abbrev pub is_covered : List Pattern → Expr → Bool
is_covered ps e = list_all (is_among (variables ps)) (expr_names e)

-- ---- which members have anything for a pattern

-- a pattern has a solution over a graph
abbrev pub fits : Pattern → List Triple → Bool
fits p graph = has_rows (bgp graph (p ∷ []))

-- the graph of a member, by its number
abbrev pub graph_of : List (List Triple) → ℕ → List Triple
graph_of graphs at = get_or graphs at []

-- the sources of a pattern: the members, by number, whose graph it fits
abbrev pub sources : List (List Triple) → Pattern → List ℕ
sources graphs p = filter (λ at. fits p (graph_of graphs at)) (range_with_len 0 (length graphs))

-- ---- members that are left out

-- whether a member is kept; one that the list is too short for isn't
abbrev pub is_kept : List Bool → ℕ → Bool
is_kept kept at = get_or kept at false

-- the graphs with an empty one in the place of each member that isn't kept, so that each member keeps its number
abbrev pub of_kept : List Bool → List (List Triple) → List (List Triple)
of_kept kept [] = []
of_kept [] (graph ∷ graphs) = [] ∷ of_kept [] graphs
of_kept (k ∷ kept) (graph ∷ graphs) = (if k then graph else []) ∷ of_kept kept graphs

-- each of so many members is kept
abbrev pub AreAllKept : List Bool → ℕ → Type 0
AreAllKept kept members = (at : ℕ) → at < members → is_kept kept at ≡ true

-- the graphs of the kept members alone
abbrev pub kept_alone : List Bool → List (List Triple) → List (List Triple)
kept_alone [] graphs = []
kept_alone (k ∷ kept) [] = []
kept_alone (k ∷ kept) (graph ∷ graphs) = if k then graph ∷ kept_alone kept graphs else kept_alone kept graphs

-- ---- laws

-- there are as many graphs
abbrev pub KeptHaveTheirNumbers : Type 0
KeptHaveTheirNumbers = (kept : List Bool) (graphs : List (List Triple)) → length (of_kept kept graphs) ≡ length graphs

-- a kept member has its graph, and each other one the empty graph
abbrev pub KeptHaveTheirGraphs : Type 0
KeptHaveTheirGraphs = (kept : List Bool) (graphs : List (List Triple)) (at : ℕ) → graph_of (of_kept kept graphs) at ≡ (if is_kept kept at then graph_of graphs at else [])

-- the sources of a pattern are those of its sources that are kept
abbrev pub SourcesAreKept : Type 0
SourcesAreKept = (kept : List Bool) (graphs : List (List Triple)) (p : Pattern) → sources (of_kept kept graphs) p ≡ filter (is_kept kept) (sources graphs p)

-- the union is that of the kept members' graphs alone
abbrev pub UnionIsOfTheKept : Type 0
UnionIsOfTheKept = (kept : List Bool) (graphs : List (List Triple)) → union (of_kept kept graphs) ≡ union (kept_alone kept graphs)

-- where each member is kept, the graphs are as they were
abbrev pub AllKeptAreAll : Type 0
AllKeptAreAll = (kept : List Bool) (graphs : List (List Triple)) → AreAllKept kept (length graphs) → of_kept kept graphs ≡ graphs
