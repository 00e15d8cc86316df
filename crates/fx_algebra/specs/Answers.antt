-- The answer of a query over a graph (SPARQL 1.1 sections 18.2.4, 18.2.5 and 18.5).
use Rattle.std.specs.Prelude.{◌≡◌, ℕ, ◌==◌, ◌&&◌, not, Bool, true, false, List, [], ◌∷◌, drop, Option, Some, None, is_some, is_none}
use Rattle.std.specs.List.{filter_map, list_all}
use Rattle.fx_terms.specs.declared.triples.Triple.{Triple}
use Rattle.fx_terms.specs.declared.patterns.Pattern.{Pattern}
use Rattle.fx_algebra.specs.declared.answers.Answer.{Answer}
use Rattle.fx_algebra.specs.declared.answers.Answer.TheVariants.{Table, Truth}
use Rattle.fx_algebra.specs.declared.queries.Query.{Query}
use Rattle.fx_algebra.specs.declared.queries.Form.{Form}
use Rattle.fx_algebra.specs.declared.queries.Form.TheVariants.{Select, Ask}
use Rattle.fx_algebra.specs.declared.queries.Element.{Element, Element-F, fold-Element}
use Rattle.fx_algebra.specs.declared.queries.Group.{Group, Group-F, fold-Group}
use Rattle.fx_algebra.specs.declared.queries.Inline.{Inline}
use Rattle.fx_algebra.specs.Solutions.{Bindings}
use Rattle.fx_algebra.specs.Groups.{evaluated}
use Rattle.fx_algebra.specs.Operators.{join, inline_rows}
use Rattle.fx_algebra.specs.OrderedRows.{in_order}
use Rattle.fx_algebra.specs.Sequences.{distinct_rows, limited}

-- the pattern of one element
abbrev pub element_pattern : Element-F (Option Pattern) (List Pattern) → Option Pattern
element_pattern (Element-F.Triple pattern) = Some pattern
element_pattern (Element-F.Filter expr) = None
element_pattern (Element-F.Optional patterns) = None
element_pattern (Element-F.Union groups) = None
element_pattern (Element-F.Minus patterns) = None
element_pattern (Element-F.Bind expr name) = None
element_pattern (Element-F.Values inline) = None
element_pattern (Element-F.Service silent iri patterns) = None

abbrev pub group_patterns : Group-F (Option Pattern) (List Pattern) → List Pattern
group_patterns g = filter_map (λ pattern. pattern) g.elements

-- the pattern that an element is, where it is one
abbrev pub pattern_in : Element → Option Pattern
pattern_in = fold-Element (Option Pattern) (List Pattern) element_pattern group_patterns

-- the patterns of a group
abbrev pub patterns_of : Group → List Pattern
patterns_of = fold-Group (Option Pattern) (List Pattern) element_pattern group_patterns

abbrev pub has_rows : List Bindings → Bool
has_rows [] = false
has_rows (row ∷ rows) = true

-- the rows joined with the VALUES behind the query, where there is one
abbrev pub with_inline : Option Inline → List Bindings → List Bindings
with_inline None rows = rows
with_inline (Some inline) rows = join rows (inline_rows inline)

-- the rows of a query over a graph
abbrev pub query_rows : Query → List Triple → (List ℕ → List Triple) → List ℕ → List Bindings
query_rows q graph graphs down = with_inline q.inline (evaluated q.group graph graphs down)

-- the rows of a SELECT: in order, projected, each once at its first place where DISTINCT is set, without the OFFSET rows in front,
-- and LIMIT rows at most
abbrev pub selected : Query → Bool → List (List ℕ) → List Bindings → List Bindings
selected q distinct columns rows = limited q.limit (drop q.offset (distinct_rows distinct columns (in_order q.order columns rows)))

-- the answer of a form from its rows
abbrev pub form_answer : Query → Form → List Bindings → Answer
form_answer q (Select distinct columns) rows = Table columns (selected q distinct columns rows)
form_answer q Ask rows = Truth (has_rows rows)

-- The answer of a query over a graph, where each IRI has a graph for SERVICE, and the occurrences of SERVICE of these numbers are
-- down.
abbrev pub answer : Query → List Triple → (List ℕ → List Triple) → List ℕ → Answer
answer q graph graphs down = form_answer q q.form (query_rows q graph graphs down)

-- no endpoint has a graph
abbrev pub no_graphs : List ℕ → List Triple
no_graphs iri = []

-- the answer of a query without SERVICE
abbrev pub answer_alone : Query → List Triple → Answer
answer_alone q graph = answer q graph no_graphs []

-- ---- plain queries

abbrev pub is_empty_list : {X : Type 0} → List X → Bool
is_empty_list [] = true
is_empty_list (x ∷ xs) = false

abbrev pub is_triple : Element → Bool
is_triple element = is_some (pattern_in element)

abbrev pub is_plain_form : Form → Bool
is_plain_form (Select distinct columns) = not distinct
is_plain_form Ask = false

abbrev pub has_no_modifiers : Query → Bool
has_no_modifiers q = is_empty_list q.order && (q.offset == 0 && (is_none q.limit && is_none q.inline))

-- A plain query is a SELECT without DISTINCT whose group holds triples alone, and that has neither order keys nor OFFSET, LIMIT and
-- VALUES behind it.
abbrev pub is_plain : Query → Bool
is_plain q = is_plain_form q.form && (list_all is_triple q.group.elements && has_no_modifiers q)

abbrev pub IsPlain : Query → Type 0
IsPlain q = is_plain q ≡ true
