-- Laws of plans.
use Rattle.std.specs.Prelude.{◌≡◌, ◌<◌, ℕ, List, All, AllPairs}
use Rattle.std.specs.List.{flat_map}
use Rattle.fx_terms.specs.declared.patterns.Pattern.{Pattern}
use Rattle.fx_terms.specs.declared.triples.Triple.{Triple}
use Rattle.fx_algebra.specs.declared.queries.Query.{Query}
use Rattle.fx_plan.specs.declared.parts.Part.{Part}
use Rattle.fx_plan.specs.declared.parts.Part.TheVariants.{Run, EmptyRun, Service}
use Rattle.fx_sources.specs.Patterns.{patterns}
use Rattle.fx_algebra.specs.Units.{sources}
use Rattle.fx_grammar.specs.Accepted.{Accepted}
use Rattle.fx_spelling.specs.Units.{IsFit, IsSound}
use Rattle.fx_walks.specs.Sections.{parts_with, run_patterns, sections}

-- the patterns of a query's runs are its patterns outside SERVICE, in text order
abbrev pub RunsHaveThePatterns : Type 0
RunsHaveThePatterns = (q : Query) → flat_map run_patterns (sections q) ≡ patterns q

-- each unit of a part can be asked for
abbrev pub HasFitUnits : Part → Type 0
HasFitUnits (Run units bound) = All IsFit units
HasFitUnits EmptyRun = Unit {0}
HasFitUnits (Service iri) = Unit {0}

-- each unit of the plan of a query that some text is accepted as can be asked for, where the members of each pattern rise by number
abbrev pub UnitsAreFit : Type 0
UnitsAreFit = (text : List ℕ) (q : Query) (members : Pattern → List ℕ) → Accepted text q → ((p : Pattern) → AllPairs ◌<◌ (members p)) → All HasFitUnits (parts_with members q)

-- what the members of each unit of a part give are all the rows that the union of the graphs has for it
abbrev pub HasSoundUnits : List (List Triple) → Part → Type 0
HasSoundUnits graphs (Run units bound) = All (IsSound graphs) units
HasSoundUnits graphs EmptyRun = Unit {0}
HasSoundUnits graphs (Service iri) = Unit {0}

-- so it is with the sources that the patterns have in the graphs
abbrev pub UnitsAreSound : Type 0
UnitsAreSound = (text : List ℕ) (q : Query) (graphs : List (List Triple)) → Accepted text q → All (HasSoundUnits graphs) (parts_with (sources graphs) q)
