-- The names that a group binds (SPARQL 1.1 section 18.2.1, variables in scope), in text order, each at its first place.
use Rattle.std.specs.Prelude.{ℕ, Bool, List, [], ◌∷◌, ◌++◌, fold, if◌then◌else◌}
use Rattle.std.specs.List.{list_any, flat_map}
use Rattle.std.specs.Ordering.{is_eq}
use Rattle.fx_terms.specs.Texts.{text_cmp}
use Rattle.fx_terms.specs.declared.patterns.Pattern.{Pattern}
use Rattle.fx_terms.specs.declared.patterns.PatternTerm.{PatternTerm}
use Rattle.fx_terms.specs.declared.patterns.PatternTerm.TheVariants.{Variable, Constant}
use Rattle.fx_algebra.specs.declared.queries.Element.{Element, Element-F, fold-Element}
use Rattle.fx_algebra.specs.declared.queries.Group.{Group, Group-F, fold-Group}

-- whether a name stands among names
abbrev pub is_among : List (List ℕ) → List ℕ → Bool
is_among names name = list_any (λ n. is_eq (text_cmp n name)) names

-- the names with one more at their end, where they lack it
unfoldable pub with_name : List (List ℕ) → List ℕ → List (List ℕ)
with_name names name = if is_among names name then names else names ++ name ∷ []

-- each name once, at its first place
abbrev pub once : List (List ℕ) → List (List ℕ)
once names = fold with_name [] names

abbrev pub part_names : PatternTerm → List (List ℕ)
part_names (Variable name) = name ∷ []
part_names (Constant term) = []

abbrev pub pattern_names : Pattern → List (List ℕ)
pattern_names p = part_names p.subject ++ (part_names p.predicate ++ part_names p.object)

abbrev pub all_of : List (List (List ℕ)) → List (List ℕ)
all_of lists = flat_map (λ names. names) lists

-- the names of one element, with those of each group inside in its place: FILTER and MINUS give none
abbrev pub element_names : Element-F (List (List ℕ)) (List (List ℕ)) → List (List ℕ)
element_names (Element-F.Triple pattern) = pattern_names pattern
element_names (Element-F.Filter expr) = []
element_names (Element-F.Optional names) = names
element_names (Element-F.Union groups) = all_of groups
element_names (Element-F.Minus names) = []
element_names (Element-F.Bind expr name) = name ∷ []
element_names (Element-F.Values inline) = inline.columns
element_names (Element-F.Service silent iri names) = names

abbrev pub group_names : Group-F (List (List ℕ)) (List (List ℕ)) → List (List ℕ)
group_names g = all_of g.elements

-- the names of an element and of a group, with repeats
abbrev pub mentions : Element → List (List ℕ)
mentions = fold-Element (List (List ℕ)) (List (List ℕ)) element_names group_names

abbrev pub group_mentions : Group → List (List ℕ)
group_mentions = fold-Group (List (List ℕ)) (List (List ℕ)) element_names group_names

-- the scope of a group
abbrev pub scope : Group → List (List ℕ)
scope g = once (group_mentions g)
