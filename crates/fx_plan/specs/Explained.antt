-- The text of plans, and what their parts require.
use Rattle.std.specs.Prelude.{◌<◌, ℕ, List, [], ◌∷◌, ◌++◌, codes, All, Bool, true, false, slice_get, Option, None, Some}
use Rattle.std.specs.Fmt.{decimal}
use Rattle.std.specs.List.{flat_map}
use Rattle.std.proofs.Common.{suc}
use Rattle.fx_terms.specs.declared.patterns.Pattern.{Pattern}
use Rattle.fx_outside.specs.Endpoints.{EndpointParts}
use Rattle.fx_algebra.specs.BasicGraphPatterns.{variables}
use Rattle.fx_algebra.specs.Printed.{printed_element}
use Rattle.fx_algebra.specs.declared.expressions.Expr.{Expr}
use Rattle.fx_algebra.specs.declared.queries.Element.{Element}
use Rattle.fx_algebra.specs.declared.queries.Element.TheVariants as element
use Rattle.fx_algebra.specs.declared.units.Unit as unit
use Rattle.fx_plan.specs.Plans.{free}
use Rattle.fx_plan.specs.declared.parts.Part.{Part}
use Rattle.fx_plan.specs.declared.parts.Part.TheVariants.{Run, EmptyRun, Service}

-- two spaces, an element as it is printed, and the end of the line
abbrev pub element_line : Element → List ℕ
element_line e = codes "  " ++ (printed_element e ++ codes "\n")

abbrev pub pattern_line : Pattern → List ℕ
pattern_line p = element_line (element.Triple p)

abbrev pub filter_line : Expr → List ℕ
filter_line e = element_line (element.Filter e)

abbrev pub pattern_lines : List Pattern → List ℕ
pattern_lines ps = flat_map pattern_line ps

abbrev pub filter_lines : List Expr → List ℕ
filter_lines es = flat_map filter_line es

-- the name of a member
abbrev pub name_at : Option EndpointParts → List ℕ
name_at None = []
name_at (Some endpoint) = endpoint.name

abbrev pub name_of : List EndpointParts → ℕ → List ℕ
name_of endpoints m = name_at (slice_get endpoints m)

-- names, each behind a comma
abbrev pub more_names : List EndpointParts → List ℕ → List ℕ
more_names endpoints ms = flat_map (λ m. codes "," ++ name_of endpoints m) ms

-- the names of members with commas between
abbrev pub member_names : List EndpointParts → List ℕ → List ℕ
member_names endpoints [] = []
member_names endpoints (m ∷ ms) = name_of endpoints m ++ more_names endpoints ms

abbrev pub kind : Bool → List ℕ
kind true = codes "group "
kind false = codes "single "

-- what a unit is, whom it asks, and how many of its variables aren't known yet
abbrev pub unit_line : List EndpointParts → List (List ℕ) → unit.Unit → List ℕ
unit_line endpoints known u =
    kind u.group
    ++ (member_names endpoints u.members ++ (codes " " ++ (decimal (free known u) ++ codes " free\n")))

-- its line, then a line for each pattern and each filter
abbrev pub unit_text : List EndpointParts → List (List ℕ) → unit.Unit → List ℕ
unit_text endpoints known u = unit_line endpoints known u ++ (pattern_lines u.patterns ++ filter_lines u.filters)

-- the units of a run: what a unit binds is known to those behind it
abbrev pub unit_texts : List EndpointParts → List (List ℕ) → List unit.Unit → List ℕ
unit_texts endpoints known [] = []
unit_texts endpoints known (u ∷ us) = unit_text endpoints known u ++ unit_texts endpoints (known ++ variables u.patterns) us

-- a part, where it has a number if it is a run
abbrev pub part_text : List EndpointParts → ℕ → Part → List ℕ
part_text endpoints k (Run us bound) = codes "run " ++ (decimal k ++ (codes "\n" ++ unit_texts endpoints bound us))
part_text endpoints k EmptyRun = codes "run " ++ (decimal k ++ codes " empty\n")
part_text endpoints k (Service iri) = codes "service " ++ (iri ++ codes "\n")

-- the number of the next run behind a part
abbrev pub number_behind : ℕ → Part → ℕ
number_behind k (Run us bound) = suc k
number_behind k EmptyRun = suc k
number_behind k (Service iri) = k

-- parts in text order, where the runs among them are numbered from a number on
abbrev pub part_texts : List EndpointParts → ℕ → List Part → List ℕ
part_texts endpoints k [] = []
part_texts endpoints k (part ∷ parts) = part_text endpoints k part ++ part_texts endpoints (number_behind k part) parts

-- the text of the parts of a query
abbrev pub explained : List Part → List EndpointParts → List ℕ
explained parts endpoints = part_texts endpoints 0 parts

-- each member of a unit is one of so many
abbrev pub IsWithin : ℕ → unit.Unit → Type 0
IsWithin count u = All (λ m. m < count) u.members

-- each member of a part's units is one of so many
abbrev pub HasMembers : ℕ → Part → Type 0
HasMembers count (Run us bound) = All (IsWithin count) us
HasMembers count EmptyRun = Unit {0}
HasMembers count (Service iri) = Unit {0}
