-- The query that asks for rows in one VALUES block (SPARQL 1.1 section 10.2): a row of the block has the number of a row and its terms, and
-- the unit stands behind the block once.
use Rattle.std.specs.Prelude.{◌≡◌, ◌<◌, ◌^◌, ℕ, pos, false, if◌then◌else◌, List, [], ◌∷◌, ◌++◌, map, Option, Some, None, codes, IsPermutation}
use Rattle.std.specs.Fmt.{decimal}
use Rattle.std.specs.List.{flat_map}
use Rattle.std.specs.Ordering.{is_eq}
use Rattle.std.proofs.Common.{suc}
use Rattle.fx_terms.specs.Names.{IsName}
use Rattle.fx_terms.specs.Texts.{text_cmp}
use Rattle.fx_terms.specs.declared.terms.Term.{Term}
use Rattle.fx_terms.specs.declared.triples.Triple.{Triple}
use Rattle.fx_algebra.specs.Answers.{answer_alone}
use Rattle.fx_algebra.specs.BasicGraphPatterns.{bgp, variables}
use Rattle.fx_algebra.specs.Operators.{filtered, inline_row, merges}
use Rattle.fx_algebra.specs.Scopes.{once}
use Rattle.fx_algebra.specs.Solutions.{Bindings, term_of}
use Rattle.fx_algebra.specs.Values.{integer}
use Rattle.fx_algebra.specs.declared.answers.Answer.TheVariants.{Table}
use Rattle.fx_algebra.specs.declared.queries.Element.{Element}
use Rattle.fx_algebra.specs.declared.queries.Element.TheVariants as element
use Rattle.fx_algebra.specs.declared.queries.Form.TheVariants as form
use Rattle.fx_algebra.specs.declared.queries.Group.{roll-Group}
use Rattle.fx_algebra.specs.declared.queries.Inline.{Inline}
use Rattle.fx_algebra.specs.declared.queries.Query.{Query}
use Rattle.fx_algebra.specs.declared.units.Unit as unit
use Rattle.fx_spelling.specs.Units.{IsFit}
use Rattle.fx_renaming.specs.Branches.{bound_expr, bound_pattern}
use Rattle.fx_founds.specs.Uniting.{Place}

-- ---- names in the text

-- the column of the rows' numbers
abbrev pub number_name : List ℕ
number_name = codes "k"

-- a variable by its number among the unit's
abbrev pub sent_name : ℕ → List ℕ
sent_name variable = codes "v" ++ decimal variable

-- the variables of a unit, each at its first place
abbrev pub unit_names : unit.Unit → List (List ℕ)
unit_names u = once (variables u.patterns)

-- how many names stand before one
abbrev pub place_of : List (List ℕ) → List ℕ → ℕ
place_of [] name = 0
place_of (n ∷ ns) name = if is_eq (text_cmp n name) then 0 else suc (place_of ns name)

-- the other name that a variable has, by its place among names
abbrev pub named : List (List ℕ) → List ℕ → List ℕ
named names name = sent_name (place_of names name)

abbrev pub renamed : unit.Unit → List ℕ → List ℕ
renamed u = named (unit_names u)

-- ---- the block

-- the column of the numbers, and then the unit's variables by their numbers
abbrev pub columns : unit.Unit → List (List ℕ)
columns u = number_name ∷ map (renamed u) (unit_names u)

-- the number of a row in plain decimal, and for each of the unit's variables the row's term, or UNDEF where it has none
abbrev pub cells : unit.Unit → Place → List (Option Term)
cells u b = Some (integer (pos b.number)) ∷ map (term_of b.row.solution) (unit_names u)

abbrev pub block : unit.Unit → List Place → Inline
block u bs = record { columns = columns u; rows = map (cells u) bs }

-- ---- the query

-- the block, and then the unit's patterns and filters under the names in the text
abbrev pub elements : unit.Unit → List Place → List Element
elements u bs =
    element.Values (block u bs)
    ∷ (map (λ p. element.Triple (bound_pattern (renamed u) [] p)) u.patterns ++ map (λ e. element.Filter (bound_expr (renamed u) [] e)) u.filters)

abbrev pub values_query : unit.Unit → List Place → Query
values_query u bs = record {
  form = form.Select false (columns u);
  group = roll-Group (record { elements = elements u bs });
  order = [];
  offset = 0;
  limit = None;
  inline = None;
}

-- ---- laws

-- the columns are names
pub record ColumnsAreNames : Type 0 where
  pub number : IsName number_name
  pub sent : (variable : ℕ) → variable < 2 ^ 64 → IsName (sent_name variable)

-- the row of the block merges to these with the solutions of the unit, under the unit's filters
abbrev pub rows_of : List Triple → unit.Unit → Place → List Bindings
rows_of graph u b =
    filtered (map (bound_expr (renamed u) []) u.filters)
    (merges (bgp graph (map (bound_pattern (renamed u) []) u.patterns)) (inline_row (columns u) (cells u b)))

-- the answer over a graph is a table of these rows, in some order
pub record HasTheRows (graph : List Triple) (u : unit.Unit) (bs : List Place) : Type 0 where
  pub rows : List Bindings
  pub answer_is : answer_alone (values_query u bs) graph ≡ Table (columns u) rows
  pub rows_are : IsPermutation rows (flat_map (rows_of graph u) bs)

abbrev pub ValuesHaveTheRows : Type 0
ValuesHaveTheRows = (graph : List Triple) (u : unit.Unit) (bs : List Place) → IsFit u → HasTheRows graph u bs
