-- The text: the query, printed.
use Rattle.std.specs.Prelude.{◌≡◌, ◌<◌, ◌≤◌, ◌^◌, ℕ, List, [], ◌∷◌, ◌++◌, map, length, All, codes, Option}
use Rattle.std.specs.List.{flat_map}
use Rattle.fx_terms.specs.Terms.{IsTerm}
use Rattle.fx_terms.specs.declared.terms.Term.{Term}
use Rattle.fx_terms.specs.declared.patterns.Pattern.{Pattern}
use Rattle.fx_algebra.specs.Printed.{Word, fixed, variable, condition, in_brackets, pattern_words, printed, printed_query, query_words, row_words}
use Rattle.fx_algebra.specs.Solutions.{Bindings}
use Rattle.fx_algebra.specs.declared.expressions.Expr.{Expr}
use Rattle.fx_algebra.specs.declared.units.Row.{Row}
use Rattle.fx_algebra.specs.declared.units.Unit as unit
use Rattle.fx_grammar.specs.Accepted.{Accepted}
use Rattle.fx_spelling.specs.Units.{IsFit}
use Rattle.fx_renaming.specs.Branches.{bound_expr, bound_pattern}
use Rattle.fx_founds.specs.Uniting.{Place, branches}
use Rattle.fx_values.specs.Values.{cells, columns, named, unit_names, values_query}

-- the terms of a row are terms
abbrev pub HasTerms : Bindings → Type 0
HasTerms s = All (λ (e : List ℕ × Term). IsTerm e.1) s

-- The printed query that asks for at most 64 rows is accepted as that query.
abbrev pub ValuesIsAccepted : Type 0
ValuesIsAccepted = (u : unit.Unit) (rows : List Row)
    → IsFit u
    → All (λ r. HasTerms r.solution) rows
    → length rows ≤ 64
    → length (unit_names u) < 2 ^ 64
    → Accepted (printed_query (values_query u (branches u rows))) (values_query u (branches u rows))

-- ---- its words

-- the columns and the rows of a block
abbrev pub block_words : List (List ℕ) → List (List (Option Term)) → List Word
block_words names rows = in_brackets (map (λ n. variable n) names) ++ (fixed (codes "{") ∷ (flat_map row_words rows ++ fixed (codes "}") ∷ []))

-- the triples and the filters of a unit under the other names of its variables
abbrev pub triple_words : List (List ℕ) → List Pattern → List Word
triple_words names ps = flat_map (λ p. pattern_words (bound_pattern (named names) [] p)) ps

abbrev pub filter_words : List (List ℕ) → Expr → List Word
filter_words names e = fixed (codes "FILTER") ∷ condition (printed (bound_expr (named names) [] e))

abbrev pub unit_words : List (List ℕ) → unit.Unit → List Word
unit_words names u = triple_words names u.patterns ++ flat_map (filter_words names) u.filters

abbrev pub values_words : unit.Unit → List Place → List Word
values_words u bs =
    fixed (codes "SELECT")
    ∷ (map (λ n. variable n) (columns u)
    ++ fixed (codes "WHERE")
    ∷ fixed (codes "{")
    ∷ fixed (codes "VALUES")
    ∷ (block_words (columns u) (map (cells u) bs) ++ (unit_words (unit_names u) u ++ fixed (codes "}") ∷ [])))

-- the law: these are the words that the query is printed in
abbrev pub ValuesHaveTheWords : Type 0
ValuesHaveTheWords = (u : unit.Unit) (bs : List Place) → query_words (values_query u bs) ≡ values_words u bs
