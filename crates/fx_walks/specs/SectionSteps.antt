-- How the sections of a query are found, element by element.
use Rattle.std.specs.Prelude.{ℕ, List, [], ◌∷◌, ◌++◌, map}
use Rattle.std.specs.List.{flat_map}
use Rattle.fx_terms.specs.declared.patterns.Pattern.{Pattern}
use Rattle.fx_algebra.specs.Answers.{no_graphs}
use Rattle.fx_algebra.specs.BasicGraphPatterns.{variables}
use Rattle.fx_algebra.specs.Groups.{Cut, Meaning, Part, pattern, condition, operator, element_meaning, group_meaning, meaning}
use Rattle.fx_algebra.specs.Scopes.{once}
use Rattle.fx_algebra.specs.declared.expressions.Expr.{Expr}
use Rattle.fx_algebra.specs.declared.queries.Element.{Element, fold-Element}
use Rattle.fx_algebra.specs.declared.queries.Group.{Group}
use Rattle.fx_walks.specs.Sections.{section_of}
use Rattle.fx_walks.specs.declared.sections.Section.{Section}
use Rattle.fx_walks.specs.declared.sections.Section.TheVariants.{Run}

-- what an element and a group are to the group around them; their stations don't hang on the graphs
abbrev pub part_of : Element → Part
part_of = fold-Element Part Meaning (element_meaning no_graphs []) group_meaning

abbrev pub group_of : Group → Meaning
group_of = meaning no_graphs []

abbrev pub part_patterns : Part → List Pattern
part_patterns (pattern p) = p ∷ []
part_patterns (condition e) = []
part_patterns (operator o) = []

abbrev pub part_filters : Part → List Expr
part_filters (pattern p) = []
part_filters (condition e) = e ∷ []
part_filters (operator o) = []

-- the sections of a cut, where these names are bound before it
abbrev pub sections_in : Cut → List (List ℕ) → List Section
sections_in cut before = map section_of (cut.stations 0 before)

-- those inside an element
abbrev pub inside_of : Part → List (List ℕ) → List Section
inside_of (pattern p) before = []
inside_of (condition e) before = []
inside_of (operator o) before = sections_in o.cut before

-- those of alternatives, one after the other
abbrev pub alternatives : List Meaning → List Section
alternatives gs = flat_map (λ g. sections_in g.cut []) gs

-- a run with the filters of its group, and the names in scope before it; no pattern is no run
abbrev pub run_of : List Expr → List (List ℕ) → List Pattern → List Section
run_of filters known [] = []
run_of filters known (p ∷ ps) = Run (p ∷ ps) filters (once known) ∷ []

-- those of the elements behind a run's patterns, where the names before these are known
abbrev pub sections_from : List Expr → List (List ℕ) → List Pattern → List Part → List Section
sections_from filters known run [] = run_of filters known run
sections_from filters known run (pattern p ∷ parts) = sections_from filters known (run ++ p ∷ []) parts
sections_from filters known run (condition e ∷ parts) = sections_from filters known run parts
sections_from filters known run (operator o ∷ parts) =
    run_of filters known run ++ (sections_in o.cut (known ++ variables run) ++ sections_from filters ((known ++ variables run) ++ o.cut.names) [] parts)
