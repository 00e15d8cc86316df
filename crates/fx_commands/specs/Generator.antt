-- The members that `generate` makes of a size, by a rule, and what it writes of them.
use Rattle.std.specs.Prelude.{ℕ, ◌+◌, ◌%◌, Bool, if◌then◌else◌, List, [], ◌∷◌, ◌++◌, codes, length, map, ◌==◌, ◌&&◌, ◌||◌}
use Rattle.std.specs.List.{flat_map, range_with_len, sum_by}
use Rattle.std.specs.Fmt.{decimal}
use Rattle.fx_terms.specs.Datatypes.{xsd_integer}
use Rattle.fx_terms.specs.Graphs.{graph_of}
use Rattle.fx_terms.specs.Literals.{LiteralParts}
use Rattle.fx_terms.specs.declared.terms.Term.TheVariants.{Iri, Literal}
use Rattle.fx_terms.specs.declared.triples.Triple.{Triple}
use Rattle.fx_algebra.specs.Graphs.{union}
use Rattle.fx_commands.specs.Counting.{age, generated_rows, knows}
use Rattle.fx_local.specs.Lines.{line}

-- ---- triples

-- the person of a number
abbrev pub person : ℕ → List ℕ
person number = codes "http://g/p" ++ decimal number

-- each person knows the next one, and the last one knows the first
abbrev pub link : ℕ → ℕ → Triple
link size number = record { subject = person number; predicate = knows; object = Iri (person ((number + 1) % size)) }

-- a number as a literal
abbrev pub whole : ℕ → LiteralParts
whole number = record { form = decimal number; datatype = xsd_integer; tag = [] }

-- the ages go from 0 to 89, again and again
abbrev pub aged : ℕ → Triple
aged number = record { subject = person number; predicate = age; object = Literal (whole (number % 90)) }

-- ---- members

-- the members hold the persons' links by turns, and each fifth is held by the member behind too
abbrev pub holds_link : ℕ → ℕ → Bool
holds_link member number = (member == number % 3) || ((number % 5 == 0) && (member == (number + 1) % 3))

abbrev pub links : ℕ → ℕ → ℕ → List Triple
links size member number = if holds_link member number then link size number ∷ [] else []

-- the ages are held by the last member alone
abbrev pub ages : ℕ → ℕ → List Triple
ages member number = if member == 2 then aged number ∷ [] else []

-- what a member, 0 to 2, holds of the person of a number, where there are so many persons
abbrev pub held_of : ℕ → ℕ → ℕ → List Triple
held_of size member number = links size member number ++ ages member number

abbrev pub member_graph : ℕ → ℕ → List Triple
member_graph size member = graph_of (flat_map (held_of size member) (range_with_len 0 size))

-- the graphs of the three
abbrev pub member_graphs : ℕ → List (List Triple)
member_graphs size = map (member_graph size) (0 ∷ 1 ∷ 2 ∷ [])

-- ---- what is written

-- a line of a word and a number
abbrev pub counted_line : List ℕ → ℕ → List ℕ
counted_line word number = word ++ (codes " " ++ line (decimal number))

-- how many members there are, how many triples their union has, how many they hold together, and how many rows the query has over the union
abbrev pub lines_of : ℕ → ℕ → ℕ → ℕ → List ℕ
lines_of members triples held rows = counted_line (codes "members") members ++ (counted_line (codes "triples") triples ++ (counted_line (codes "held") held ++ counted_line (codes "rows") rows))

abbrev pub summary_of : List (List Triple) → List ℕ
summary_of graphs = lines_of (length graphs) (length (union graphs)) (sum_by (λ graph. length graph) graphs) (length (generated_rows (union graphs)))

abbrev pub summary : ℕ → List ℕ
summary size = summary_of (member_graphs size)
