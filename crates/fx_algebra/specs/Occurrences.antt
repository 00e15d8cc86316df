-- The occurrences of SERVICE in a query, in text order: the IRI of each, and whether it is silent (SPARQL 1.1 Federated Query,
-- section 2). The number of an occurrence is its place in this list.
use Rattle.std.specs.Prelude.{ℕ, Bool, List, [], ◌∷◌}
use Rattle.std.specs.List.{flat_map}
use Rattle.fx_algebra.specs.declared.queries.Element.{Element, Element-F, fold-Element}
use Rattle.fx_algebra.specs.declared.queries.Group.{Group, Group-F, fold-Group}
use Rattle.fx_algebra.specs.declared.queries.Query.{Query}

abbrev pub Occurrence : Type 0
Occurrence = List ℕ × Bool

abbrev pub all_of : List (List Occurrence) → List Occurrence
all_of lists = flat_map (λ occurrences. occurrences) lists

-- the occurrences of one element, with those of each group inside in its place
abbrev pub element_occurrences : Element-F (List Occurrence) (List Occurrence) → List Occurrence
element_occurrences (Element-F.Triple pattern) = []
element_occurrences (Element-F.Filter expr) = []
element_occurrences (Element-F.Optional occurrences) = occurrences
element_occurrences (Element-F.Union groups) = all_of groups
element_occurrences (Element-F.Minus occurrences) = occurrences
element_occurrences (Element-F.Bind expr name) = []
element_occurrences (Element-F.Values inline) = []
element_occurrences (Element-F.Service silent iri occurrences) = (iri, silent) ∷ occurrences

abbrev pub group_occurrences : Group-F (List Occurrence) (List Occurrence) → List Occurrence
group_occurrences g = all_of g.elements

abbrev pub of_element : Element → List Occurrence
of_element = fold-Element (List Occurrence) (List Occurrence) element_occurrences group_occurrences

abbrev pub of_group : Group → List Occurrence
of_group = fold-Group (List Occurrence) (List Occurrence) element_occurrences group_occurrences

-- the occurrences of a query
abbrev pub services : Query → List Occurrence
services query = of_group query.group
