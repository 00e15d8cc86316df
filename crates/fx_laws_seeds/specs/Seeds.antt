-- The rows with which the runs of an OPTIONAL are asked for.
use Rattle.std.specs.Prelude.{◌≡◌, ◌<◌, ◌+◌, ℕ, Bool, true, false, ◌&&◌, List, [], ◌∷◌, ◌++◌, filter, length, Option, Some, None, is_none}
use Rattle.std.specs.List.{filter_map, list_any}
use Rattle.fx_terms.specs.declared.triples.Triple.{Triple}
use Rattle.fx_terms.specs.declared.patterns.Pattern.{Pattern}
use Rattle.fx_algebra.specs.Cuts.{cut}
use Rattle.fx_algebra.specs.Groups.{group_rows, meaning, one_empty}
use Rattle.fx_algebra.specs.Occurrences.{of_group}
use Rattle.fx_algebra.specs.Scopes.{group_mentions, once}
use Rattle.fx_algebra.specs.Solutions.{Bindings}
use Rattle.fx_algebra.specs.Stations as station
use Rattle.fx_algebra.specs.declared.expressions.Expr.{Expr}
use Rattle.fx_algebra.specs.declared.queries.Element.{Element, Element-F, fold-Element}
use Rattle.fx_algebra.specs.declared.queries.Element.TheVariants as element
use Rattle.fx_algebra.specs.declared.queries.Group.{Group, roll-Group}

-- ---- what elements are

-- the triple pattern that an element is
abbrev pub pattern_step : Element-F (Option Pattern) (Unit {0}) → Option Pattern
pattern_step (Element-F.Triple p) = Some p
pattern_step other = None

abbrev pub pattern_of : Element → Option Pattern
pattern_of = fold-Element (Option Pattern) (Unit {0}) pattern_step (λ group. tt)

-- the condition of the filter that an element is
abbrev pub filter_step : Element-F (Option Expr) (Unit {0}) → Option Expr
filter_step (Element-F.Filter e) = Some e
filter_step other = None

abbrev pub filter_of : Element → Option Expr
filter_of = fold-Element (Option Expr) (Unit {0}) filter_step (λ group. tt)

abbrev pub patterns_in : List Element → List Pattern
patterns_in es = filter_map pattern_of es

abbrev pub filters_in : List Element → List Expr
filters_in es = filter_map filter_of es

-- an element is neither of these
abbrev pub is_operator : Element → Bool
is_operator e = is_none (pattern_of e) && is_none (filter_of e)

abbrev pub without_filters : List Element → List Element
without_filters es = filter (λ e. is_none (filter_of e)) es

abbrev pub group_of : List Element → Group
group_of es = roll-Group (record { elements = es })

-- ---- what is asked for

-- Each IRI has a graph, and the occurrences of SERVICE of these numbers are down; over a graph, where occurrences are numbered from a
-- number on.
pub record Place : Type 0 where
  pub graphs : List ℕ → List Triple
  pub down : List ℕ
  pub graph : List Triple
  pub number : ℕ

-- the same behind so many occurrences
abbrev pub behind : Place → ℕ → Place
behind at n = record { graphs = at.graphs; down = at.down; graph = at.graph; number = at.number + n }

-- the stations of a group, and the rows that enter each of them, where the group stands by itself
abbrev pub stations_at : Place → Group → List station.Station
stations_at at g = (cut at.graphs at.down g).stations at.number []

abbrev pub seeds_at : Place → Group → List (List Bindings)
seeds_at at g = (cut at.graphs at.down g).seeds at.graph at.number one_empty

-- the rows of a group
abbrev pub rows_at : Place → Group → List Bindings
rows_at at g = group_rows (meaning at.graphs at.down g) at.graph at.number

-- how many occurrences of SERVICE there are among elements
abbrev pub services_in : List Element → ℕ
services_in es = length (of_group (group_of es))

-- ---- OPTIONAL

-- Some stations of a group, with the rows that enter them, stand behind those of the elements in front, which these rows enter, and in
-- front of those behind.
pub record StandsBehind (front own : List (List Bindings)) (stations : List station.Station) (all : List (List Bindings)) (those : List station.Station) : Type 0 where
  pub stations_in_front : List station.Station
  pub stations_behind : List station.Station
  pub seeds_behind : List (List Bindings)
  pub as_many : length stations_in_front ≡ length front
  pub stations_are : those ≡ stations_in_front ++ (stations ++ stations_behind)
  pub seeds_are : all ≡ front ++ (own ++ seeds_behind)

-- a group with an OPTIONAL
abbrev pub with_optional : List Element → List Element → List Element → Group
with_optional front inside rest = group_of (front ++ (element.Optional (group_of inside) ∷ rest))

-- the one run of an OPTIONAL of triple patterns and filters alone has the rows of what stands in front
abbrev pub OptionalRunHasTheRowsOnItsLeft : Type 0
OptionalRunHasTheRowsOnItsLeft = (at : Place) (front inside rest : List Element) → list_any is_operator inside ≡ false → 0 < length (patterns_in inside) →
    StandsBehind (seeds_at at (group_of front)) (rows_at at (group_of (without_filters front)) ∷ [])
    (station.run (patterns_in inside) (filters_in inside) (once (group_mentions (group_of front))) ∷ [])
    (seeds_at at (with_optional front inside rest)) (stations_at at (with_optional front inside rest))

-- each other OPTIONAL has the stations, and the rows for them, that its group has by itself, behind the occurrences in front
abbrev pub OtherOptionalsGoByThemselves : Type 0
OtherOptionalsGoByThemselves = (at : Place) (front inside rest : List Element) → list_any is_operator inside ≡ true →
    let there = behind at (services_in front) in
    StandsBehind (seeds_at at (group_of front)) (seeds_at there (group_of inside)) (stations_at there (group_of inside))
    (seeds_at at (with_optional front inside rest)) (stations_at at (with_optional front inside rest))
