-- How a query is printed: a list of words, joined by single spaces. Brackets stand exactly where the grammar needs them, that is
-- round a part whose production its place doesn't reach without them (SPARQL 1.1 section 19.8).
use Rattle.std.specs.Prelude.{ℕ, ◌==◌, Bool, true, false, List, [], ◌∷◌, ◌++◌, map, Option, None, Some, codes, nat_le, if◌then◌else◌}
use Rattle.std.specs.List.{flat_map}
use Rattle.std.specs.Fmt.{decimal}
use Rattle.fx_terms.specs.declared.terms.Term.{Term}
use Rattle.fx_terms.specs.declared.terms.Term.TheVariants.{Iri}
use Rattle.fx_terms.specs.declared.patterns.Pattern.{Pattern}
use Rattle.fx_terms.specs.declared.patterns.PatternTerm.{PatternTerm}
use Rattle.fx_terms.specs.declared.patterns.PatternTerm.TheVariants.{Variable, Constant}
use Rattle.fx_terms.specs.Writing.{written_term}
use Rattle.fx_algebra.specs.declared.expressions.Expr.{Expr, Expr-F, fold-Expr}
use Rattle.fx_algebra.specs.declared.expressions.Compare.{Compare}
use Rattle.fx_algebra.specs.declared.expressions.Compare.TheVariants.{Equal, NotEqual, Less, Greater, LessOrEqual, GreaterOrEqual}
use Rattle.fx_algebra.specs.declared.expressions.Sign.{Sign}
use Rattle.fx_algebra.specs.declared.expressions.Sign.TheVariants.{Plus, Minus}
use Rattle.fx_algebra.specs.declared.expressions.Function.{Function}
use Rattle.fx_algebra.specs.declared.expressions.Function.TheVariants as function
use Rattle.fx_algebra.specs.declared.queries.Element.{Element, Element-F, fold-Element}
use Rattle.fx_algebra.specs.declared.queries.Group.{Group, Group-F, fold-Group}
use Rattle.fx_algebra.specs.declared.queries.Inline.{Inline}
use Rattle.fx_algebra.specs.declared.queries.Order.{Order}
use Rattle.fx_algebra.specs.declared.queries.Form.{Form}
use Rattle.fx_algebra.specs.declared.queries.Form.TheVariants.{Select, Ask}
use Rattle.fx_algebra.specs.declared.queries.Query.{Query}

-- ---- words

-- A word: a keyword or a mark, a variable, a term, a number.
pub data Word : Type 0 where
  fixed : List ℕ → Word
  variable : List ℕ → Word
  term : Term → Word
  number : ℕ → Word

abbrev pub spelling : Word → List ℕ
spelling (fixed text) = text
spelling (variable name) = 63 ∷ name
spelling (term t) = written_term t
spelling (number n) = decimal n

-- words, each behind a space
abbrev pub spaced : List Word → List ℕ
spaced words = flat_map (λ word. 32 ∷ spelling word) words

-- words with one space between
abbrev pub joined : List Word → List ℕ
joined [] = []
joined (word ∷ words) = spelling word ++ spaced words

-- lists of words, each behind a mark
abbrev pub marked : Word → List (List Word) → List Word
marked mark parts = flat_map (λ part. mark ∷ part) parts

-- lists of words, with a mark between each two
abbrev pub separated : Word → List (List Word) → List Word
separated mark [] = []
separated mark (part ∷ parts) = part ++ marked mark parts

abbrev pub in_brackets : List Word → List Word
in_brackets words = fixed (codes "(") ∷ (words ++ fixed (codes ")") ∷ [])

-- ---- expressions

-- The production that an expression has. The last three are primary expressions.
pub data Level : Type 0 where
  disjunction : Level
  conjunction : Level
  relation : Level
  sum : Level
  product : Level
  unary : Level
  named : Level
  constant : Level
  called : Level

abbrev pub rank : Level → ℕ
rank disjunction = 0
rank conjunction = 1
rank relation = 2
rank sum = 3
rank product = 4
rank unary = 5
rank named = 6
rank constant = 6
rank called = 6

pub record Printed : Type 0 where
  pub words : List Word
  pub level : Level

-- the words in a place that reaches productions of a rank and above
unfoldable pub in_place : ℕ → Printed → List Word
in_place place p = if nat_le place (rank p.level) then p.words else in_brackets p.words

-- parts with a mark between, each in the same place
abbrev pub chained : Word → ℕ → List Printed → List Word
chained mark place parts = separated mark (map (in_place place) parts)

-- parts in brackets, with commas between
abbrev pub listed : List Printed → List Word
listed parts = in_brackets (chained (fixed (codes ",")) 0 parts)

abbrev pub comparison : Compare → List ℕ
comparison Equal = codes "="
comparison NotEqual = codes "!="
comparison Less = codes "<"
comparison Greater = codes ">"
comparison LessOrEqual = codes "<="
comparison GreaterOrEqual = codes ">="

abbrev pub sign : Sign → List ℕ
sign Plus = codes "+"
sign Minus = codes "-"

abbrev pub keyword : Function → List ℕ
keyword function.Bound = codes "BOUND"
keyword function.Coalesce = codes "COALESCE"
keyword function.If = codes "IF"
keyword function.Str = codes "STR"
keyword function.Lang = codes "LANG"
keyword function.Datatype = codes "DATATYPE"
keyword function.StrLen = codes "STRLEN"
keyword function.IsIri = codes "isIRI"
keyword function.IsLiteral = codes "isLITERAL"
keyword function.IsBlank = codes "isBLANK"
keyword function.IsNumeric = codes "isNUMERIC"
keyword function.LangMatches = codes "LANGMATCHES"
keyword function.SameTerm = codes "sameTerm"
keyword function.Contains = codes "CONTAINS"
keyword function.StrStarts = codes "STRSTARTS"
keyword function.StrEnds = codes "STRENDS"

-- `IN`, or `NOT IN`
abbrev pub among : Bool → List Word
among negated = if negated then fixed (codes "NOT") ∷ fixed (codes "IN") ∷ [] else fixed (codes "IN") ∷ []

-- what stands behind the first part of a sum
abbrev pub signed : List (Sign × Printed) → List Word
signed parts = flat_map (λ part. fixed (sign part.0) ∷ in_place 4 part.1) parts

-- one level of an expression, with each part printed in its place
abbrev pub print_step : Expr-F Printed → Printed
print_step (Expr-F.Variable name) = record { words = variable name ∷ []; level = named }
print_step (Expr-F.Constant t) = record { words = term t ∷ []; level = constant }
print_step (Expr-F.Or parts) = record { words = chained (fixed (codes "||")) 1 parts; level = disjunction }
print_step (Expr-F.And parts) = record { words = chained (fixed (codes "&&")) 2 parts; level = conjunction }
print_step (Expr-F.Not part) = record { words = fixed (codes "!") ∷ in_place 6 part; level = unary }
print_step (Expr-F.Positive part) = record { words = fixed (codes "+") ∷ in_place 6 part; level = unary }
print_step (Expr-F.Negative part) = record { words = fixed (codes "-") ∷ in_place 6 part; level = unary }
print_step (Expr-F.Compare op left right) = record { words = in_place 3 left ++ (fixed (comparison op) ∷ in_place 3 right); level = relation }
print_step (Expr-F.Among negated item list) = record { words = in_place 3 item ++ (among negated ++ listed list); level = relation }
print_step (Expr-F.Sum first rest) = record { words = in_place 4 first ++ signed rest; level = sum }
print_step (Expr-F.Product parts) = record { words = chained (fixed (codes "*")) 5 parts; level = product }
print_step (Expr-F.Call f args) = record { words = fixed (keyword f) ∷ listed args; level = called }

abbrev pub printed : Expr → Printed
printed = fold-Expr Printed print_step

-- ---- groups

abbrev pub part_word : PatternTerm → Word
part_word (Variable name) = variable name
part_word (Constant t) = term t

abbrev pub is_call : Level → Bool
is_call called = true
is_call other = false

abbrev pub is_variable : Level → Bool
is_variable named = true
is_variable other = false

-- a condition of FILTER: a call stands bare, any other expression in brackets
unfoldable pub condition : Printed → List Word
condition p = if is_call p.level then p.words else in_brackets p.words

abbrev pub value_word : Option Term → Word
value_word None = fixed (codes "UNDEF")
value_word (Some t) = term t

abbrev pub row_words : List (Option Term) → List Word
row_words row = in_brackets (map value_word row)

-- the columns and rows of VALUES
unfoldable pub block : Inline → List Word
block inline =
    in_brackets (map (λ name. variable name) inline.columns)
    ++ (fixed (codes "{") ∷ (flat_map row_words inline.rows ++ fixed (codes "}") ∷ []))

abbrev pub silence : Bool → List Word
silence silent = if silent then fixed (codes "SILENT") ∷ [] else []

abbrev pub pattern_words : Pattern → List Word
pattern_words p = part_word p.subject ∷ part_word p.predicate ∷ part_word p.object ∷ fixed (codes ".") ∷ []

-- one element, with the words of each group inside in its place
abbrev pub element_step : Element-F (List Word) (List Word) → List Word
element_step (Element-F.Triple p) = pattern_words p
element_step (Element-F.Filter e) = fixed (codes "FILTER") ∷ condition (printed e)
element_step (Element-F.Optional group) = fixed (codes "OPTIONAL") ∷ group
element_step (Element-F.Union groups) = separated (fixed (codes "UNION")) groups
element_step (Element-F.Minus group) = fixed (codes "MINUS") ∷ group
element_step (Element-F.Bind e name) = fixed (codes "BIND") ∷ in_brackets ((printed e).words ++ (fixed (codes "AS") ∷ variable name ∷ []))
element_step (Element-F.Values inline) = fixed (codes "VALUES") ∷ block inline
element_step (Element-F.Service silent iri group) = fixed (codes "SERVICE") ∷ (silence silent ++ (term (Iri iri) ∷ group))

abbrev pub group_step : Group-F (List Word) (List Word) → List Word
group_step g = fixed (codes "{") ∷ (flat_map (λ words. words) g.elements ++ fixed (codes "}") ∷ [])

abbrev pub element_words : Element → List Word
element_words = fold-Element (List Word) (List Word) element_step group_step

abbrev pub group_words : Group → List Word
group_words = fold-Group (List Word) (List Word) element_step group_step

-- ---- queries

-- the columns, or a star where there are none
abbrev pub column_words : List (List ℕ) → List Word
column_words [] = fixed (codes "*") ∷ []
column_words (name ∷ names) = map (λ n. variable n) (name ∷ names)

abbrev pub distinction : Bool → List Word
distinction distinct = if distinct then fixed (codes "DISTINCT") ∷ [] else []

unfoldable pub form_words : Form → List Word
form_words (Select distinct columns) =
    fixed (codes "SELECT") ∷ (distinction distinct ++ (column_words columns ++ fixed (codes "WHERE") ∷ []))
form_words Ask = fixed (codes "ASK") ∷ fixed (codes "WHERE") ∷ []

-- a condition of ORDER BY: an ascending variable or call stands bare
unfoldable pub key_words : Order → List Word
key_words key =
    let p = printed key.expr in
    if key.descending then fixed (codes "DESC") ∷ in_brackets p.words
    else (if is_call p.level then p.words else (if is_variable p.level then p.words else fixed (codes "ASC") ∷ in_brackets p.words))

unfoldable pub order_words : List Order → List Word
order_words [] = []
order_words (key ∷ keys) = fixed (codes "ORDER") ∷ fixed (codes "BY") ∷ flat_map key_words (key ∷ keys)

abbrev pub limit_words : Option ℕ → List Word
limit_words None = []
limit_words (Some n) = fixed (codes "LIMIT") ∷ number n ∷ []

abbrev pub offset_words : ℕ → List Word
offset_words n = if n == 0 then [] else fixed (codes "OFFSET") ∷ number n ∷ []

abbrev pub trailing_words : Option Inline → List Word
trailing_words None = []
trailing_words (Some inline) = fixed (codes "VALUES") ∷ block inline

unfoldable pub query_words : Query → List Word
query_words q =
    form_words q.form
    ++ (group_words q.group ++ (order_words q.order ++ (limit_words q.limit ++ (offset_words q.offset ++ trailing_words q.inline))))

-- ---- texts

abbrev pub printed_query : Query → List ℕ
printed_query q = joined (query_words q)

abbrev pub printed_element : Element → List ℕ
printed_element e = joined (element_words e)
