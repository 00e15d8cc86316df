-- The parts of a query that requests are sent for, in text order: its runs of triple patterns outside SERVICE, and its occurrences of
-- SERVICE.
use Rattle.std.specs.Prelude.{ℕ, List, [], ◌∷◌, map, length, take, drop, if◌then◌else◌}
use Rattle.std.specs.List.{list_any}
use Rattle.fx_terms.specs.declared.patterns.Pattern.{Pattern}
use Rattle.fx_algebra.specs.Answers.{is_empty_list}
use Rattle.fx_algebra.specs.Cuts.{stations}
use Rattle.fx_algebra.specs.Stations.{Station}
use Rattle.fx_algebra.specs.Stations as station
use Rattle.fx_algebra.specs.declared.expressions.Expr.{Expr}
use Rattle.fx_algebra.specs.declared.queries.Query.{Query}
use Rattle.fx_plan.specs.Plans.{plan}
use Rattle.fx_plan.specs.declared.parts.Part.{Part}
use Rattle.fx_plan.specs.declared.parts.Part.TheVariants as part
use Rattle.fx_walks.specs.declared.sections.Section.{Section}
use Rattle.fx_walks.specs.declared.sections.Section.TheVariants.{Run, Service}

-- ---- the sections of a query

-- a station as a section: of a SERVICE its IRI alone
abbrev pub section_of : Station → Section
section_of (station.run ps filters before) = Run ps filters before
section_of (station.service number silent iri g) = Service iri

abbrev pub sections : Query → List Section
sections q = map section_of (stations q)

-- the patterns of a run; those of a SERVICE are asked for elsewhere
abbrev pub run_patterns : Section → List Pattern
run_patterns (Run ps filters bound) = ps
run_patterns (Service iri) = []

-- ---- the plan

-- a run by the sources of its patterns, in their order: no request is sent where a pattern has none
abbrev pub part_of_run : List Pattern → List Expr → List (List ℕ) → List (List ℕ) → Part
part_of_run ps filters bound sources = if list_any is_empty_list sources then part.EmptyRun else part.Run (plan ps sources filters bound) bound

-- sections by the sources of the patterns of all runs, in text order
abbrev pub parts_by : List Section → List (List ℕ) → List Part
parts_by [] sources = []
parts_by (Run ps filters bound ∷ rest) sources = part_of_run ps filters bound (take (length ps) sources) ∷ parts_by rest (drop (length ps) sources)
parts_by (Service iri ∷ rest) sources = part.Service iri ∷ parts_by rest sources

-- one section, where each pattern has the sources that a function gives
abbrev pub part_with : (Pattern → List ℕ) → Section → Part
part_with f (Run ps filters bound) = part_of_run ps filters bound (map f ps)
part_with f (Service iri) = part.Service iri

-- the parts of a query, where each pattern has the sources that a function gives
abbrev pub parts_with : (Pattern → List ℕ) → Query → List Part
parts_with f q = map (part_with f) (sections q)
