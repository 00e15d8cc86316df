-- The triple patterns of a query outside SERVICE, in text order: those of its group and of each OPTIONAL, UNION and MINUS in it.
use Rattle.std.specs.Prelude.{List, [], ◌∷◌}
use Rattle.std.specs.List.{flat_map}
use Rattle.fx_terms.specs.declared.patterns.Pattern.{Pattern}
use Rattle.fx_algebra.specs.declared.queries.Element.{Element, Element-F, fold-Element}
use Rattle.fx_algebra.specs.declared.queries.Group.{Group, Group-F, fold-Group}
use Rattle.fx_algebra.specs.declared.queries.Query.{Query}

abbrev pub all_of : List (List Pattern) → List Pattern
all_of lists = flat_map (λ patterns. patterns) lists

-- the patterns of one element, with those of each group inside in its place: SERVICE gives none
abbrev pub element_patterns : Element-F (List Pattern) (List Pattern) → List Pattern
element_patterns (Element-F.Triple pattern) = pattern ∷ []
element_patterns (Element-F.Filter expr) = []
element_patterns (Element-F.Optional patterns) = patterns
element_patterns (Element-F.Union groups) = all_of groups
element_patterns (Element-F.Minus patterns) = patterns
element_patterns (Element-F.Bind expr name) = []
element_patterns (Element-F.Values inline) = []
element_patterns (Element-F.Service silent iri patterns) = []

abbrev pub group_patterns : Group-F (List Pattern) (List Pattern) → List Pattern
group_patterns g = all_of g.elements

abbrev pub of_element : Element → List Pattern
of_element = fold-Element (List Pattern) (List Pattern) element_patterns group_patterns

abbrev pub of_group : Group → List Pattern
of_group = fold-Group (List Pattern) (List Pattern) element_patterns group_patterns

-- the patterns of a query
abbrev pub patterns : Query → List Pattern
patterns query = of_group query.group
