-- What a group of patterns gives over a graph (SPARQL 1.1 sections 18.2.2 and 18.6; SPARQL 1.1 Federated Query, section 4). A group
-- is gone through from left to right, from the one empty solution, and its filters hold of the whole group. The same pass gives the
-- places that requests are sent for, and the rows that enter each of them.
use Rattle.std.specs.Prelude.{ℕ, ◌+◌, ◌==◌, Bool, true, false, if◌then◌else◌, List, [], ◌∷◌, ◌++◌, map}
use Rattle.std.specs.List.{flat_map, list_all, list_any}
use Rattle.std.proofs.Common.{suc}
use Rattle.fx_terms.specs.declared.triples.Triple.{Triple}
use Rattle.fx_terms.specs.declared.patterns.Pattern.{Pattern}
use Rattle.fx_algebra.specs.BasicGraphPatterns.{bgp, variables}
use Rattle.fx_algebra.specs.Operators.{join, left_join, minus, extend, filtered, inline_rows}
use Rattle.fx_algebra.specs.Scopes.{once, pattern_names}
use Rattle.fx_algebra.specs.Solutions.{Bindings}
use Rattle.fx_algebra.specs.Stations as station
use Rattle.fx_algebra.specs.declared.expressions.Expr.{Expr}
use Rattle.fx_algebra.specs.declared.queries.Element.{Element, Element-F}
use Rattle.fx_algebra.specs.declared.queries.Element.TheVariants as element
use Rattle.fx_algebra.specs.declared.queries.Group.{Group, Group-F, fold-Group, roll-Group}

-- ---- what groups and elements are

-- Rows over a graph, where the occurrences of SERVICE are numbered from a number on.
abbrev pub Rows : Type 0
Rows = List Triple → ℕ → List Bindings

-- What a group, or an operator in one, has for requests: the names that it binds, with repeats; its stations, where occurrences of
-- SERVICE are numbered from a number on and these names are bound before it; and over a graph the rows that enter each of them, where
-- these rows stand before it. No row enters a SERVICE: it is evaluated by itself, from the one empty solution.
pub record Cut : Type 0 where
  pub names : List (List ℕ)
  pub stations : ℕ → List (List ℕ) → List station.Station
  pub seeds : List Triple → ℕ → List Bindings → List (List Bindings)

-- A group: itself, how many occurrences of SERVICE it has, its own filters, its rows without them, whether it holds triple patterns and
-- filters alone, and its cut.
pub record Meaning : Type 0 where
  pub tree : Group
  pub services : ℕ
  pub filters : List Expr
  pub rows : Rows
  pub is_simple : Bool
  pub cut : Cut

-- An element that makes of the rows so far the next: itself, how many occurrences of SERVICE it has, what it makes, and its cut.
pub record Operator : Type 0 where
  pub tree : Element
  pub services : ℕ
  pub rows : List Triple → ℕ → List Bindings → List Bindings
  pub cut : Cut

-- An element to its group: a triple pattern, a filter, or an operator.
pub data Part : Type 0 where
  pattern : Pattern → Part
  condition : Expr → Part
  operator : Operator → Part

-- A step of a group: a maximal run of triple patterns with nothing but filters between them, or an operator.
pub data Step : Type 0 where
  run : List Pattern → Step
  apply : Operator → Step

-- ---- the steps of a group

-- a pattern in front of steps: it joins a run that comes first
abbrev pub with_pattern : Pattern → List Step → List Step
with_pattern p (run ps ∷ steps) = run (p ∷ ps) ∷ steps
with_pattern p (apply o ∷ steps) = run (p ∷ []) ∷ apply o ∷ steps
with_pattern p [] = run (p ∷ []) ∷ []

abbrev pub with_part : Part → List Step → List Step
with_part (pattern p) steps = with_pattern p steps
with_part (condition e) steps = steps
with_part (operator o) steps = apply o ∷ steps

abbrev pub steps_of : List Part → List Step
steps_of [] = []
steps_of (part ∷ parts) = with_part part (steps_of parts)

-- the rows after steps: a run is one basic graph pattern, and is joined
abbrev pub after : List Triple → ℕ → List Bindings → List Step → List Bindings
after graph number rows [] = rows
after graph number rows (run ps ∷ steps) = after graph number (join rows (bgp graph ps)) steps
after graph number rows (apply o ∷ steps) = after graph (number + o.services) (o.rows graph number rows) steps

-- the stations of steps, with the filters of their group
abbrev pub stations_of : List Expr → ℕ → List (List ℕ) → List Step → List station.Station
stations_of filters number before [] = []
stations_of filters number before (run ps ∷ steps) = station.run ps filters (once before) ∷ stations_of filters number (before ++ variables ps) steps
stations_of filters number before (apply o ∷ steps) = o.cut.stations number before ++ stations_of filters (number + o.services) (before ++ o.cut.names) steps

-- the rows that enter each of them
abbrev pub seeds_of : List Triple → ℕ → List Bindings → List Step → List (List Bindings)
seeds_of graph number rows [] = []
seeds_of graph number rows (run ps ∷ steps) = rows ∷ seeds_of graph number (join rows (bgp graph ps)) steps
seeds_of graph number rows (apply o ∷ steps) = o.cut.seeds graph number rows ++ seeds_of graph (number + o.services) (o.rows graph number rows) steps

-- ---- filters, names and occurrences of SERVICE

abbrev pub with_condition : Part → List Expr → List Expr
with_condition (pattern p) es = es
with_condition (condition e) es = e ∷ es
with_condition (operator o) es = es

abbrev pub conditions_of : List Part → List Expr
conditions_of [] = []
conditions_of (part ∷ parts) = with_condition part (conditions_of parts)

abbrev pub part_services : Part → ℕ
part_services (pattern p) = 0
part_services (condition e) = 0
part_services (operator o) = o.services

abbrev pub parts_services : List Part → ℕ
parts_services [] = 0
parts_services (part ∷ parts) = part_services part + parts_services parts

abbrev pub names_of_part : Part → List (List ℕ)
names_of_part (pattern p) = pattern_names p
names_of_part (condition e) = []
names_of_part (operator o) = o.cut.names

-- whether a run goes on behind a part
abbrev pub keeps_run : Part → Bool
keeps_run (pattern p) = true
keeps_run (condition e) = true
keeps_run (operator o) = false

abbrev pub part_tree : Part → Element
part_tree (pattern p) = element.Triple p
part_tree (condition e) = element.Filter e
part_tree (operator o) = o.tree

abbrev pub groups_services : List Meaning → ℕ
groups_services [] = 0
groups_services (g ∷ gs) = g.services + groups_services gs

-- ---- groups

-- the one empty solution
abbrev pub one_empty : List Bindings
one_empty = [] ∷ []

-- the rows of a group: its filters are applied to the whole of it
abbrev pub group_rows : Meaning → Rows
group_rows g graph number = filtered g.filters (g.rows graph number)

-- the rows of groups, one after the other
abbrev pub alternatives : List Meaning → Rows
alternatives [] graph number = []
alternatives (g ∷ gs) graph number = group_rows g graph number ++ alternatives gs graph (number + g.services)

abbrev pub is_down : List ℕ → ℕ → Bool
is_down down number = list_any (λ n. n == number) down

-- the rows of the SERVICE of a number over the graph at its IRI: the one empty solution where it is down
abbrev pub service_rows : (List ℕ → List Triple) → List ℕ → List ℕ → Meaning → ℕ → List Bindings
service_rows graphs down iri g number = if is_down down number then one_empty else group_rows g (graphs iri) (suc number)

-- ---- cuts

-- where no request is sent for
abbrev pub no_station : List (List ℕ) → Cut
no_station names = record { names = names; stations = λ number before. []; seeds = λ graph number rows. [] }

-- the stations of a group are the same wherever it stands: no name is bound before it, and it goes from the one empty solution
abbrev pub by_itself : List (List ℕ) → Meaning → Cut
by_itself names g = record { names = names; stations = λ number before. g.cut.stations number []; seeds = λ graph number rows. g.cut.seeds graph number one_empty }

-- The group of an OPTIONAL: where it holds triple patterns and filters alone, the names and the rows before its run are those on the
-- left of the OPTIONAL.
abbrev pub names_before : Bool → List (List ℕ) → List (List ℕ)
names_before simple before = if simple then before else []

abbrev pub rows_before : Bool → List Bindings → List Bindings
rows_before simple rows = if simple then rows else one_empty

abbrev pub optional_cut : Meaning → Cut
optional_cut g = record {
  names = g.cut.names;
  stations = λ number before. g.cut.stations number (names_before g.is_simple before);
  seeds = λ graph number rows. g.cut.seeds graph number (rows_before g.is_simple rows);
}

abbrev pub alternative_names : List Meaning → List (List ℕ)
alternative_names gs = flat_map (λ g. g.cut.names) gs

abbrev pub alternative_stations : List Meaning → ℕ → List station.Station
alternative_stations [] number = []
alternative_stations (g ∷ gs) number = g.cut.stations number [] ++ alternative_stations gs (number + g.services)

abbrev pub alternative_seeds : List Meaning → List Triple → ℕ → List (List Bindings)
alternative_seeds [] graph number = []
alternative_seeds (g ∷ gs) graph number = g.cut.seeds graph number one_empty ++ alternative_seeds gs graph (number + g.services)

abbrev pub union_cut : List Meaning → Cut
union_cut gs = record { names = alternative_names gs; stations = λ number before. alternative_stations gs number; seeds = λ graph number rows. alternative_seeds gs graph number }

abbrev pub service_cut : Bool → List ℕ → Meaning → Cut
service_cut silent iri g = record { names = g.cut.names; stations = λ number before. station.service number silent iri g.tree ∷ []; seeds = λ graph number rows. one_empty ∷ [] }

-- ---- one layer

-- One element, with what each group inside is in its place. OPTIONAL is the left join, with the filters of its own group as the
-- conditions.
abbrev pub element_meaning : (List ℕ → List Triple) → List ℕ → Element-F Part Meaning → Part
element_meaning graphs down (Element-F.Triple p) = pattern p
element_meaning graphs down (Element-F.Filter e) = condition e
element_meaning graphs down (Element-F.Optional g) =
    operator (record { tree = element.Optional g.tree; services = g.services; rows = λ graph number rows. left_join rows (g.rows graph number) g.filters; cut = optional_cut g })
element_meaning graphs down (Element-F.Union gs) =
    operator (record { tree = element.Union (map (λ g. g.tree) gs); services = groups_services gs; rows = λ graph number rows. join rows (alternatives gs graph number); cut = union_cut gs })
element_meaning graphs down (Element-F.Minus g) =
    operator (record { tree = element.Minus g.tree; services = g.services; rows = λ graph number rows. minus rows (group_rows g graph number); cut = by_itself [] g })
element_meaning graphs down (Element-F.Bind e name) = operator (record { tree = element.Bind e name; services = 0; rows = λ graph number rows. extend rows name e; cut = no_station (name ∷ []) })
element_meaning graphs down (Element-F.Values inline) =
    operator (record { tree = element.Values inline; services = 0; rows = λ graph number rows. join rows (inline_rows inline); cut = no_station inline.columns })
element_meaning graphs down (Element-F.Service silent iri g) = operator (record {
  tree = element.Service silent iri g.tree;
  services = suc g.services;
  rows = λ graph number rows. join rows (service_rows graphs down iri g number);
  cut = service_cut silent iri g;
})

abbrev pub group_cut : List Part → Cut
group_cut parts = record {
  names = flat_map names_of_part parts;
  stations = λ number before. stations_of (conditions_of parts) number before (steps_of parts);
  seeds = λ graph number rows. seeds_of graph number rows (steps_of parts);
}

abbrev pub group_meaning : Group-F Part Meaning → Meaning
group_meaning g = record {
  tree = roll-Group (record { elements = map part_tree g.elements });
  services = parts_services g.elements;
  filters = conditions_of g.elements;
  rows = λ graph number. after graph number one_empty (steps_of g.elements);
  is_simple = list_all keeps_run g.elements;
  cut = group_cut g.elements;
}

-- what a group is, where each IRI has a graph, and the occurrences of SERVICE of these numbers are down
abbrev pub meaning : (List ℕ → List Triple) → List ℕ → Group → Meaning
meaning graphs down = fold-Group Part Meaning (element_meaning graphs down) group_meaning

-- the rows of a group over a graph
abbrev pub evaluated : Group → List Triple → (List ℕ → List Triple) → List ℕ → List Bindings
evaluated group graph graphs down = group_rows (meaning graphs down group) graph 0
