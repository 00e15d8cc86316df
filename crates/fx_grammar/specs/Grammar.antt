-- The grammar of queries (SPARQL 1.1 section 19.8, in this profile), a rule for each production, in the order in which they
-- are read. Where a token of SPARQL 1.1 is left out by this profile, the rule refuses it by name at its place.
use Rattle.std.specs.Prelude.{◌≡◌, ℕ, nat_le, Bool, true, false, ◌||◌, ◌==◌, if◌then◌else◌, List, [], ◌∷◌, ◌++◌, length, map, fold, codes, Option, Some, None, is_some, Result, Ok, Err, ◌+◌, ◌*◌, ◌-◌}
use Rattle.std.specs.List.{flat_map}
use Rattle.std.specs.Str.{bytes_eq}
use Rattle.std.specs.Char.{to_ascii_lowercase}
use Rattle.fx_terms.specs.Iris.{read_iri}
use Rattle.fx_terms.specs.Datatypes.{lang_string}
pub use Rattle.fx_terms.specs.Datatypes.{xsd_integer, xsd_boolean}
use Rattle.fx_terms.specs.Literals.{plain, is_tag, LiteralParts}
use Rattle.fx_terms.specs.declared.terms.Term.{Term}
use Rattle.fx_terms.specs.declared.terms.Term.TheVariants as term
use Rattle.fx_terms.specs.declared.patterns.Pattern.{Pattern}
use Rattle.fx_terms.specs.declared.patterns.PatternTerm.{PatternTerm}
use Rattle.fx_terms.specs.declared.patterns.PatternTerm.TheVariants as part
use Rattle.fx_terms.specs.declared.iris.TermError.{TermError}
use Rattle.fx_algebra.specs.Scopes.{is_among, with_name, once, scope, all_of, mentions}
use Rattle.fx_algebra.specs.declared.expressions.Compare.{Compare}
use Rattle.fx_algebra.specs.declared.expressions.Sign.{Sign}
use Rattle.fx_algebra.specs.declared.expressions.Sign.TheVariants as sign
use Rattle.fx_algebra.specs.declared.expressions.Function.{Function}
use Rattle.fx_algebra.specs.declared.expressions.Function.TheVariants as function
use Rattle.fx_algebra.specs.declared.expressions.Expr.{Expr}
use Rattle.fx_algebra.specs.declared.expressions.Expr.TheVariants as expr
use Rattle.fx_algebra.specs.declared.queries.Inline.{Inline}
use Rattle.fx_algebra.specs.declared.queries.Element.{Element}
use Rattle.fx_algebra.specs.declared.queries.Element.TheVariants as element
use Rattle.fx_algebra.specs.declared.queries.Group.{Group, roll-Group}
use Rattle.fx_algebra.specs.declared.queries.Form.{Form}
use Rattle.fx_algebra.specs.declared.queries.Form.TheVariants as form
use Rattle.fx_algebra.specs.declared.queries.Order.{Order}
use Rattle.fx_algebra.specs.declared.queries.Query.{Query}
use Rattle.fx_grammar.specs.Kinds.{is}
use Rattle.fx_grammar.specs.Rule.{Rule, Outcome, any_number_from, shape_of, one, token, refusing, made, then_by, seq, after, before, either, opt, many_from, many, chain, some, nested}
use Rattle.fx_grammar.specs.declared.kinds.Kind.{Kind}
use Rattle.fx_grammar.specs.declared.kinds.Kind.TheVariants as k
use Rattle.fx_grammar.specs.declared.kinds.Token.{Token}
use Rattle.fx_grammar.specs.declared.kinds.Token.TheVariants as symbol
use Rattle.fx_grammar.specs.declared.refusals.SyntaxKind.{SyntaxKind}
use Rattle.fx_grammar.specs.declared.refusals.SyntaxKind.TheVariants.{UnknownPrefix, RelativeIri, BlankNode, Decimal, BadLiteral, BindInScope, ValuesWidth, RepeatedName, NumberTooWide, Unsupported, Unexpected}
use Rattle.fx_grammar.specs.declared.parts.Annotation.{Annotation}
use Rattle.fx_grammar.specs.declared.parts.Annotation.TheVariants as annotation
use Rattle.fx_grammar.specs.declared.parts.Relative.{Relative}
use Rattle.fx_grammar.specs.declared.parts.Relative.TheVariants as relative
use Rattle.fx_grammar.specs.declared.parts.Head.{Head}
use Rattle.fx_grammar.specs.declared.parts.Head.TheVariants as head
use Rattle.fx_grammar.specs.declared.parts.Limits.{Limits}
use Rattle.fx_grammar.specs.declared.parts.Modifiers.{Modifiers}
use Rattle.fx_grammar.specs.declared.parts.Main.{Main}

-- ---- what a token says

abbrev pub name_of : Token → Result (List ℕ) SyntaxKind
name_of (symbol.Variable name) = Ok name
name_of _ = Err Unexpected

-- the predicate that is written `a`: rdf:type
abbrev pub rdf_type : List ℕ
rdf_type = codes "http://www.w3.org/1999/02/22-rdf-syntax-ns#type"

abbrev pub typed_parts : List ℕ → List ℕ → LiteralParts
typed_parts form datatype = record { form = form; datatype = datatype; tag = [] }

abbrev pub tagged_parts : List ℕ → List ℕ → LiteralParts
tagged_parts form tag = record { form = form; datatype = lang_string; tag = map to_ascii_lowercase tag }

abbrev pub integer : List ℕ → Term
integer digits = term.Literal (typed_parts digits xsd_integer)

abbrev pub text_of : Token → Result (List ℕ) SyntaxKind
text_of (symbol.Text text) = Ok text
text_of _ = Err Unexpected

abbrev pub tag_of : Token → Result (List ℕ) SyntaxKind
tag_of (symbol.Tag tag) = if is_tag tag then Ok tag else Err Unexpected
tag_of _ = Err Unexpected

abbrev pub signed_of : Token → Result Term SyntaxKind
signed_of (symbol.Signed digits) = Ok (integer digits)
signed_of _ = Err Unexpected

abbrev pub plain_literal : Kind → Result Term SyntaxKind
plain_literal k.True = Ok (term.Literal (typed_parts (codes "true") xsd_boolean))
plain_literal k.False = Ok (term.Literal (typed_parts (codes "false") xsd_boolean))
plain_literal k.Decimal = Err Decimal
plain_literal _ = Err Unexpected

-- a number or a truth value; a decimal is refused
abbrev pub literal_of : Token → Result Term SyntaxKind
literal_of (symbol.Integer digits) = Ok (integer digits)
literal_of (symbol.Signed digits) = Ok (integer digits)
literal_of (symbol.Plain kind) = plain_literal kind
literal_of _ = Err Unexpected

abbrev pub comparison_of : Token → Result Compare SyntaxKind
comparison_of (symbol.Comparison op) = Ok op
comparison_of _ = Err Unexpected

abbrev pub one_of : Token → Result Function SyntaxKind
one_of (symbol.One function) = Ok function
one_of _ = Err Unexpected

abbrev pub two_of : Token → Result Function SyntaxKind
two_of (symbol.Two function) = Ok function
two_of _ = Err Unexpected

-- the number that digits write, behind those that write v
abbrev pub number_from : ℕ → List ℕ → ℕ
number_from v [] = v
number_from v (d ∷ digits) = number_from (v * 10 + (d - 48)) digits

-- a number of at most 64 bits
abbrev pub number_in : List ℕ → Option ℕ
number_in digits = if nat_le (number_from 0 digits) 18446744073709551615 then Some (number_from 0 digits) else None

abbrev pub within : Option ℕ → Result ℕ SyntaxKind
within (Some number) = Ok number
within None = Err NumberTooWide

-- a number of LIMIT or OFFSET
abbrev pub number_of : Token → Result ℕ SyntaxKind
number_of (symbol.Integer digits) = within (number_in digits)
number_of _ = Err Unexpected

-- the name that PREFIX declares: nothing stands behind its colon
abbrev pub namespace_of : Token → Result (List ℕ) SyntaxKind
namespace_of (symbol.PrefixName prefix []) = Ok prefix
namespace_of _ = Err Unexpected

abbrev pub iri_of : Token → Result (List ℕ) SyntaxKind
iri_of (symbol.Iri iri) = Ok iri
iri_of _ = Err Unexpected

-- ---- names with prefixes

-- the IRIs that names are declared for, in the order of their declarations
abbrev pub Prefixes : Type 0
Prefixes = List (List ℕ × List ℕ)

abbrev pub if_later : Option (List ℕ) → Option (List ℕ) → Option (List ℕ)
if_later (Some later) earlier = Some later
if_later None earlier = earlier

-- the IRI that a prefix is declared for last
abbrev pub declared : Prefixes → List ℕ → Option (List ℕ)
declared [] prefix = None
declared (p ∷ ps) prefix = if_later (declared ps prefix) (if bytes_eq p.0 prefix then Some p.1 else None)

abbrev pub absolute : Result (List ℕ) TermError → Result (List ℕ) SyntaxKind
absolute (Ok iri) = Ok iri
absolute (Err e) = Err RelativeIri

abbrev pub expanded : Option (List ℕ) → List ℕ → Result (List ℕ) SyntaxKind
expanded (Some iri) local = absolute (read_iri (iri ++ local))
expanded None local = Err UnknownPrefix

-- the IRI that a token names
abbrev pub named_by : Prefixes → Token → Result (List ℕ) SyntaxKind
named_by ps (symbol.Iri iri) = Ok iri
named_by ps (symbol.PrefixName prefix local) = expanded (declared ps prefix) local
named_by ps _ = Err Unexpected

abbrev pub not_lang_string : Result (List ℕ) SyntaxKind → Result (List ℕ) SyntaxKind
not_lang_string (Ok iri) = if bytes_eq iri lang_string then Err BadLiteral else Ok iri
not_lang_string (Err why) = Err why

-- ---- kinds of tokens at a place

abbrev pub is_iri_name : Kind → Bool
is_iri_name kind = is k.Iri kind || is k.PrefixName kind

abbrev pub is_plain_literal : Kind → Bool
is_plain_literal kind = is k.Integer kind || is k.Signed kind || is k.True kind || is k.False kind || is k.Decimal kind

abbrev pub begins_literal : Kind → Bool
begins_literal kind = is k.Text kind || is_plain_literal kind

abbrev pub begins_blank_node : Kind → Bool
begins_blank_node kind = is k.Blank kind || is k.LeftBracket kind

-- the marks of paths that may stand where a verb may begin, and behind one
abbrev pub begins_path : Kind → Bool
begins_path kind = is k.Caret kind || is k.Bang kind || is k.LeftParen kind

abbrev pub goes_on_path : Kind → Bool
goes_on_path kind = is k.Slash kind || is k.Star kind || is k.Plus kind || is k.Question kind || is k.Bar kind

abbrev pub is_other_call : Kind → Bool
is_other_call kind = is k.OtherCall kind || is k.Not kind

-- ---- variables, IRIs and literals

unfoldable pub variable : Rule (List ℕ)
variable = one (is k.Variable) name_of

-- a function's name, or a type's
unfoldable pub no_call : Rule (Option (Unit {0}))
no_call = opt (refusing Unsupported (is k.LeftParen))

-- a division
unfoldable pub no_quotient : Rule (Option (Unit {0}))
no_quotient = opt (refusing Unsupported (is k.Slash))

-- a path
unfoldable pub no_path : Rule (Option (Unit {0}))
no_path = opt (refusing Unsupported goes_on_path)

module _ (ps : Prefixes) where
  -- IriName = Iri | PrefixName
  unfoldable pub iri_name : Rule (List ℕ)
  iri_name = one is_iri_name (named_by ps)

  unfoldable pub datatype : Rule (List ℕ)
  datatype = one is_iri_name (λ t. not_lang_string (named_by ps t))

-- a datatype, and one in an expression
abbrev pub datatype_in : Bool → Prefixes → Rule (List ℕ)
datatype_in false ps = datatype ps
datatype_in true ps = before (datatype ps) no_call

abbrev pub annotated : List ℕ → Option Annotation → Term
annotated text None = term.Literal (plain text)
annotated text (Some (annotation.Tag tag)) = term.Literal (tagged_parts text tag)
annotated text (Some (annotation.Datatype iri)) = term.Literal (typed_parts text iri)

-- a tag is one, and a datatype isn't rdf:langString
abbrev pub IsAnnotation : Option Annotation → Type 0
IsAnnotation None = Unit {0}
IsAnnotation (Some (annotation.Tag tag)) = is_tag tag ≡ true
IsAnnotation (Some (annotation.Datatype iri)) = bytes_eq iri lang_string ≡ false

-- ( Tag | '^^' IriName )
unfoldable pub text_suffix : Rule (List ℕ) → Rule Annotation
text_suffix datatype = either (made annotation.Tag (one (is k.Tag) tag_of)) (made annotation.Datatype (after (token k.CaretCaret) datatype))

-- Literal = Text ( Tag | '^^' IriName )? | Integer | Signed | 'true' | 'false'
unfoldable pub literal : Rule (List ℕ) → Rule Term
literal datatype =
    either (made (λ p. annotated p.0 p.1) (seq (one (is k.Text) text_of) (opt (text_suffix datatype))))
    (one is_plain_literal literal_of)

-- ---- expressions, over what stands between brackets

-- a chain of one is that one
abbrev pub one_or : (List Expr → Expr) → List Expr → Expr
one_or make [] = make []
one_or make (e ∷ []) = e
one_or make (e ∷ f ∷ es) = make (e ∷ f ∷ es)

abbrev pub summed : Expr → List (Sign × Expr) → Expr
summed first [] = first
summed first (e ∷ es) = expr.Sum first (e ∷ es)

abbrev pub related : Expr → Option Relative → Expr
related e None = e
related e (Some (relative.Compared op second)) = expr.Compare op e second
related e (Some (relative.Among negated list)) = expr.Among negated e list

-- '(' and what a rule spells and ')'
abbrev pub parens : {A : Type 0} → Rule A → Rule A
parens a = before (after (token k.LeftParen) a) (token k.RightParen)

abbrev pub braces : {A : Type 0} → Rule A → Rule A
braces a = before (after (token k.LeftBrace) a) (token k.RightBrace)

-- List = '(' ')' | '(' Expr ( ',' Expr )* ')'
unfoldable pub list : Rule Expr → Rule (List Expr)
list inner = after (token k.LeftParen) (either (made (λ u. []) (token k.RightParen)) (before (chain k.Comma inner) (token k.RightParen)))

-- Call
unfoldable pub bound_call : Rule Expr
bound_call = made (λ name. expr.Call function.Bound (expr.Variable name ∷ [])) (after (token k.Bound) (parens variable))

unfoldable pub coalesce_call : Rule Expr → Rule Expr
coalesce_call inner = made (λ args. expr.Call function.Coalesce args) (after (token k.Coalesce) (list inner))

unfoldable pub two_args : Rule Expr → Rule (Expr × Expr)
two_args inner = seq inner (after (token k.Comma) inner)

unfoldable pub if_call : Rule Expr → Rule Expr
if_call inner = made (λ p. expr.Call function.If (p.0 ∷ p.1.0 ∷ p.1.1 ∷ [])) (after (token k.If) (parens (seq inner (after (token k.Comma) (two_args inner)))))

unfoldable pub one_call : Rule Expr → Rule Expr
one_call inner = made (λ p. expr.Call p.0 (p.1 ∷ [])) (seq (one (is k.One) one_of) (parens inner))

unfoldable pub two_call : Rule Expr → Rule Expr
two_call inner = made (λ p. expr.Call p.0 (p.1.0 ∷ p.1.1 ∷ [])) (seq (one (is k.Two) two_of) (parens (two_args inner)))

unfoldable pub call : Rule Expr → Rule Expr
call inner =
    either bound_call
    (either (coalesce_call inner)
    (either (if_call inner)
    (either (one_call inner)
    (either (two_call inner)
    (refusing Unsupported is_other_call)))))

module _ (ps : Prefixes) where
  -- Primary = '(' Expr ')' | Call | IriName | Literal | Var
  unfoldable pub primary_iri : Rule Expr
  primary_iri = made (λ iri. expr.Constant (term.Iri iri)) (before (iri_name ps) no_call)

  unfoldable pub primary_literal : Rule Expr
  primary_literal = made expr.Constant (literal (datatype_in true ps))

  unfoldable pub primary : Rule Expr → Rule Expr
  primary inner =
      either (parens inner)
      (either (call inner)
      (either primary_iri
      (either (made expr.Variable variable)
      primary_literal)))

  -- Unary = '!' Primary | '+' Primary | '-' Primary | Primary
  unfoldable pub unary : Rule Expr → Rule Expr
  unary inner =
      either (made expr.Not (after (token k.Bang) (primary inner)))
      (either (made expr.Positive (after (token k.Plus) (primary inner)))
      (either (made expr.Negative (after (token k.Dash) (primary inner)))
      (primary inner)))

  -- Product = Unary ( '*' Unary )*
  unfoldable pub factor : Rule Expr → Rule Expr
  factor inner = before (unary inner) no_quotient

  unfoldable pub product : Rule Expr → Rule Expr
  product inner = made (one_or expr.Product) (chain k.Star (factor inner))

  -- Sum = Product ( ( '+' | '-' ) Product | Signed ( '*' Unary )* )*
  unfoldable pub signed_product : Rule Expr → Rule (Sign × Expr)
  signed_product inner = seq (either (made (λ u. sign.Plus) (token k.Plus)) (made (λ u. sign.Minus) (token k.Dash))) (product inner)

  unfoldable pub signed_literal : Rule Expr → Rule (Sign × Expr)
  signed_literal inner =
      made (λ p. (sign.Plus, one_or expr.Product (expr.Constant p.0 ∷ p.1)))
      (seq (one (is k.Signed) signed_of) (many (after (token k.Star) (factor inner))))

  unfoldable pub addend : Rule Expr → Rule (Sign × Expr)
  addend inner = either (signed_product inner) (signed_literal inner)

  unfoldable pub sum : Rule Expr → Rule Expr
  sum inner = made (λ p. summed p.0 p.1) (seq (product inner) (many (addend inner)))

  -- Relation = Sum ( CompareMark Sum | 'NOT'? 'IN' List )?
  unfoldable pub compared : Rule Expr → Rule Relative
  compared inner = made (λ p. relative.Compared p.0 p.1) (seq (one (is k.Comparison) comparison_of) (sum inner))

  unfoldable pub among : Rule Expr → Rule Relative
  among inner = made (λ p. relative.Among (is_some p.0) p.1) (seq (opt (token k.Not)) (after (token k.In) (list inner)))

  unfoldable pub relation : Rule Expr → Rule Expr
  relation inner = made (λ p. related p.0 p.1) (seq (sum inner) (opt (either (compared inner) (among inner))))

  -- And = Relation ( '&&' Relation )*
  unfoldable pub conjunction : Rule Expr → Rule Expr
  conjunction inner = made (one_or expr.And) (chain k.AndAnd (relation inner))

  -- Expr = And ( '||' And )*
  unfoldable pub disjunction : Rule Expr → Rule Expr
  disjunction inner = made (one_or expr.Or) (chain k.OrOr (conjunction inner))

  -- No text opens more than 64 brackets at once, and an expression within an expression stands in brackets.
  unfoldable pub expression : ℕ → Rule Expr
  expression = nested disjunction

  unfoldable pub whole_expression : Rule Expr
  whole_expression = expression 64

  -- '(' Expr ')' | Call
  unfoldable pub constraint : Rule Expr
  constraint = either (parens whole_expression) (either (call whole_expression) (refusing Unsupported is_iri_name))

-- ---- triples

abbrev pub iri_part : List ℕ → PatternTerm
iri_part iri = part.Constant (term.Iri iri)

-- a verb and its objects
abbrev pub Property : Type 0
Property = PatternTerm × List PatternTerm

abbrev pub option_list : {A : Type 0} → Option A → List A
option_list (Some x) = x ∷ []
option_list None = []

abbrev pub option_items : {A : Type 0} → Option (List A) → List A
option_items (Some xs) = xs
option_items None = []

-- the triples of a subject, in text order
abbrev pub property_triples : PatternTerm → Property → List Pattern
property_triples subject p = map (λ object. record { subject = subject; predicate = p.0; object = object }) p.1

abbrev pub triples_of : PatternTerm → List Property → List Pattern
triples_of subject properties = flat_map (property_triples subject) properties

-- a dot, where triples stand before it and no other dot
abbrev pub dot : Bool → Rule (Unit {0})
dot true = token k.Dot
dot false = refusing Unexpected (is k.Dot)

module _ (ps : Prefixes) where
  -- Term = Var | IriName | Literal
  unfoldable pub part_literal : Rule Term
  part_literal = literal (datatype_in false ps)

  unfoldable pub graph_term : Rule PatternTerm
  graph_term =
      either (made part.Variable variable)
      (either (made iri_part (iri_name ps))
      (either (refusing BlankNode begins_blank_node)
      (either (refusing Unsupported (is k.LeftParen))
      (made part.Constant part_literal))))

  -- Verb = Var | IriName | 'a'
  unfoldable pub verb_iri : Rule (List ℕ)
  verb_iri = before (either (made (λ u. rdf_type) (token k.A)) (iri_name ps)) no_path

  unfoldable pub verb : Rule PatternTerm
  verb = either (made part.Variable variable) (either (made iri_part verb_iri) (refusing Unsupported begins_path))

  -- Objects = Term ( ',' Term )*
  unfoldable pub objects : Rule (List PatternTerm)
  objects = chain k.Comma graph_term

  unfoldable pub property : Rule Property
  property = seq verb objects

  -- Properties = Verb Objects ( ';' ( Verb Objects )? )*
  unfoldable pub more_properties : Rule (List (Option Property))
  more_properties = many (after (token k.Semicolon) (opt property))

  unfoldable pub properties : Rule (List Property)
  properties = made (λ p. p.0 ∷ flat_map option_list p.1) (seq property more_properties)

  unfoldable pub same_subject : Rule (List Pattern)
  same_subject = made (λ p. triples_of p.0 p.1) (seq graph_term properties)

  -- Triples = Term Properties ( '.' Triples? )?
  unfoldable pub dot_triples : Bool → Rule (Option (List Pattern))
  dot_triples behind = after (dot behind) (opt same_subject)

  unfoldable pub more_triples : Bool → Rule (List (Option (List Pattern)))
  more_triples = many_from (shape_of (dot_triples true)) dot_triples (λ behind ts. is_some ts)

  unfoldable pub more_triples_from : Bool → List Token → Outcome (List (Option (List Pattern)))
  more_triples_from behind ts = any_number_from (shape_of (dot_triples true)) dot_triples (λ behind ts. is_some ts) behind ts

  unfoldable pub triples : Rule (List Pattern)
  triples = made (λ p. p.0 ++ flat_map option_items p.1) (seq same_subject (more_triples true))

-- ---- VALUES

-- a column that isn't among the names
abbrev pub new_column_of : List (List ℕ) → Result (List ℕ) SyntaxKind → Result (List ℕ) SyntaxKind
new_column_of names (Ok name) = if is_among names name then Err RepeatedName else Ok name
new_column_of names (Err why) = Err why

unfoldable pub new_column : List (List ℕ) → Rule (List ℕ)
new_column names = one (is k.Variable) (λ t. new_column_of names (name_of t))

-- Var*, each once
unfoldable pub columns : List (List ℕ) → Rule (List (List ℕ))
columns = many_from (shape_of (new_column [])) new_column (λ names name. names ++ name ∷ [])

abbrev pub width_of : ℕ → List (Option Term) → Token → Result (Unit {0}) SyntaxKind
width_of width row t = if length row == width then Ok tt else Err ValuesWidth

-- the ')' of a row that is as wide as it is to be
unfoldable pub row_end : ℕ → List (Option Term) → Rule (Unit {0})
row_end width row = one (is k.RightParen) (width_of width row)

module _ (ps : Prefixes) where
  -- Value = IriName | Literal | 'UNDEF'
  unfoldable pub value : Rule (Option Term)
  value =
      either (made (λ iri. Some (term.Iri iri)) (iri_name ps))
      (either (made (λ u. None) (token k.Undef))
      (made Some (literal (datatype_in false ps))))

  unfoldable pub row : ℕ → Rule (List (Option Term))
  row width = made (λ p. p.0) (then_by (after (token k.LeftParen) (many value)) (shape_of (row_end 0 [])) (row_end width))

  unfoldable pub rows : ℕ → Rule (List (List (Option Term)))
  rows width = braces (many (row width))

  -- Block = Var '{' Value* '}' | '(' Var* ')' '{' ( '(' Value* ')' )* '}'
  unfoldable pub single_block : Rule Inline
  single_block = made (λ p. record { columns = p.0 ∷ []; rows = map (λ v. v ∷ []) p.1 }) (seq variable (braces (many value)))

  unfoldable pub wide_block : Rule Inline
  wide_block = made (λ p. record { columns = p.0; rows = p.1 }) (then_by (parens (columns [])) (shape_of (rows 0)) (λ names. rows (length names)))

  unfoldable pub block : Rule Inline
  block = either single_block wide_block

-- ---- groups, over what stands between braces

-- a variable of BIND that isn't in scope
abbrev pub unbound_of : List (List ℕ) → Result (List ℕ) SyntaxKind → Result (List ℕ) SyntaxKind
unbound_of names (Ok name) = if is_among names name then Err BindInScope else Ok name
unbound_of names (Err why) = Err why

unfoldable pub unbound : List (List ℕ) → Rule (List ℕ)
unbound names = one (is k.Variable) (λ t. unbound_of names (name_of t))

-- the names in scope behind some more elements
abbrev pub with_elements : List (List ℕ) → List Element → List (List ℕ)
with_elements names elements = fold with_name names (all_of (map mentions elements))

abbrev pub triple_elements : Option (List Pattern) → List Element
triple_elements (Some ts) = map element.Triple ts
triple_elements None = []

abbrev pub group_of : List Element → List (List Element) → Group
group_of first rest = roll-Group (record { elements = first ++ flat_map (λ es. es) rest })

module _ (ps : Prefixes) where
  -- Other
  unfoldable pub union : Rule Group → Rule Element
  union inner = made element.Union (chain k.Union inner)

  unfoldable pub service_name : Rule (List ℕ)
  service_name = either (iri_name ps) (refusing Unsupported (is k.Variable))

  unfoldable pub service : Rule Group → Rule Element
  service inner = made (λ p. element.Service (is_some p.0) p.1.0 p.1.1) (after (token k.Service) (seq (opt (token k.Silent)) (seq service_name inner)))

  unfoldable pub binding : List (List ℕ) → Rule Element
  binding names = made (λ p. element.Bind p.0 p.1) (after (token k.Bind) (parens (seq (whole_expression ps) (after (token k.As) (unbound names)))))

  unfoldable pub other : Rule Group → List (List ℕ) → Rule Element
  other inner names =
      either (union inner)
      (either (made element.Optional (after (token k.Optional) inner))
      (either (made element.Minus (after (token k.Minus) inner))
      (either (service inner)
      (either (made element.Filter (after (token k.Filter) (constraint ps)))
      (either (binding names)
      (either (made element.Values (after (token k.Values) (block ps)))
      (refusing Unsupported (is k.Graph))))))))

  -- Other '.'? Triples?
  unfoldable pub behind_other : Rule (List Element)
  behind_other = made triple_elements (after (opt (token k.Dot)) (opt (triples ps)))

  unfoldable pub item : Rule Group → List (List ℕ) → Rule (List Element)
  item inner names = made (λ p. p.0 ∷ p.1) (seq (other inner names) behind_other)

  unfoldable pub items : Rule Group → List (List ℕ) → Rule (List (List Element))
  items inner = many_from (shape_of (item inner [])) (item inner) with_elements

  unfoldable pub items_from : Rule Group → List (List ℕ) → List Token → Outcome (List (List Element))
  items_from inner names ts = any_number_from (shape_of (item inner [])) (item inner) with_elements names ts

  unfoldable pub first_triples : Rule (List Element)
  first_triples = made triple_elements (opt (either (triples ps) (refusing Unsupported (is k.Select))))

  -- Triples? ( Other '.'? Triples? )*
  unfoldable pub inside : Rule Group → Rule Group
  inside inner = made (λ p. group_of p.0 p.1) (then_by first_triples (shape_of (items inner [])) (λ first. items inner (with_elements [] first)))

  -- Group = '{' Triples? ( Other '.'? Triples? )* '}'
  unfoldable pub braced : Rule Group → Rule Group
  braced inner = braces (inside inner)

  -- No text opens more than 64 brackets at once.
  unfoldable pub group : ℕ → Rule Group
  group = nested braced

  unfoldable pub whole_group : Rule Group
  whole_group = group 64

-- ---- queries

abbrev pub limits_of : Option ℕ → Option ℕ → Limits
limits_of limit offset = record { limit = limit; offset = offset }

abbrev pub limits_or : Option Limits → Limits
limits_or (Some limits) = limits
limits_or None = limits_of None None

abbrev pub order_or : Option (List Order) → List Order
order_or (Some order) = order
order_or None = []

abbrev pub ordered : Bool → Expr → Order
ordered descending e = record { descending = descending; expr = e }

-- all columns, of the group and of the VALUES behind the query; or those that are named, each once
abbrev pub inline_columns : Option Inline → List (List ℕ)
inline_columns (Some inline) = inline.columns
inline_columns None = []

abbrev pub columns_of : Option (List (List ℕ)) → Group → Option Inline → List (List ℕ)
columns_of (Some names) g inline = once names
columns_of None g inline = once (scope g ++ inline_columns inline)

abbrev pub form_of : Head → Group → Option Inline → Form
form_of (head.Select once_each names) g inline = form.Select once_each (columns_of names g inline)
form_of head.Ask g inline = form.Ask

abbrev pub offset_or : Option ℕ → ℕ
offset_or (Some offset) = offset
offset_or None = 0

abbrev pub query_of : Main → Option Inline → Query
query_of main inline = record {
  form = form_of main.head main.group inline;
  group = main.group;
  order = main.modifiers.order;
  offset = offset_or main.modifiers.limits.offset;
  limit = main.modifiers.limits.limit;
  inline = inline;
}

unfoldable pub number : Rule ℕ
number = one (is k.Integer) number_of

-- Limit = 'LIMIT' Integer
unfoldable pub limit : Rule ℕ
limit = after (token k.Limit) number

-- Offset = 'OFFSET' Integer
unfoldable pub offset : Rule ℕ
offset = after (token k.Offset) number

-- Limit Offset? | Offset Limit?
unfoldable pub limits : Rule Limits
limits =
    either (made (λ p. limits_of (Some p.0) p.1) (seq limit (opt offset)))
    (made (λ p. limits_of p.1 (Some p.0)) (seq offset (opt limit)))

-- Var+ | '*'
unfoldable pub column : Rule (List ℕ)
column = either variable (refusing Unsupported (is k.LeftParen))

unfoldable pub selected : Rule (Option (List (List ℕ)))
selected = either (made (λ u. None) (token k.Star)) (made Some (some column))

-- ( 'DISTINCT' | 'REDUCED' )?
unfoldable pub distinct : Rule (Option Bool)
distinct = opt (either (made (λ u. true) (token k.Distinct)) (made (λ u. false) (token k.Reduced)))

abbrev pub is_distinct : Option Bool → Bool
is_distinct (Some b) = b
is_distinct None = false

unfoldable pub select_head : Rule Head
select_head = made (λ p. head.Select (is_distinct p.0) p.1) (after (token k.Select) (seq distinct selected))

unfoldable pub query_head : Rule Head
query_head = either select_head (either (made (λ u. head.Ask) (token k.Ask)) (refusing Unsupported (is k.OtherForm)))

-- Prefix = 'PREFIX' PNAME_NS Iri
unfoldable pub prefix : Rule (List ℕ × List ℕ)
prefix = after (token k.Prefix) (seq (one (is k.PrefixName) namespace_of) (one (is k.Iri) iri_of))

unfoldable pub prologue : Rule Prefixes
prologue = many prefix

module _ (ps : Prefixes) where
  -- Condition = ( 'ASC' | 'DESC' ) '(' Expr ')' | '(' Expr ')' | Call | Var
  unfoldable pub condition : Rule Order
  condition =
      either (made (ordered false) (after (token k.Asc) (parens (whole_expression ps))))
      (either (made (ordered true) (after (token k.Desc) (parens (whole_expression ps))))
      (either (made (λ name. ordered false (expr.Variable name)) variable)
      (made (ordered false) (constraint ps))))

  -- ( 'ORDER' 'BY' Condition+ )?
  unfoldable pub order : Rule (List Order)
  order = made order_or (opt (either (after (token k.Order) (after (token k.By) (some condition))) (refusing Unsupported (is k.Grouping))))

  -- Modifiers = ( 'ORDER' 'BY' Condition+ )? ( Limit Offset? | Offset Limit? )?
  unfoldable pub modifiers : Rule Modifiers
  modifiers = made (λ p. record { order = p.0; limits = limits_or p.1 }) (seq order (opt limits))

  -- 'WHERE'? Group
  unfoldable pub where_group : Rule Group
  where_group = after (opt (either (token k.Where) (refusing Unsupported (is k.From)))) (whole_group ps)

  -- Select | Ask
  unfoldable pub main : Rule Main
  main = made (λ p. record { head = p.0; group = p.1.0; modifiers = p.1.1 }) (seq query_head (seq where_group modifiers))

  unfoldable pub body : Rule Query
  body = made (λ p. query_of p.0 p.1) (seq main (opt (after (token k.Values) (block ps))))

-- Query = Prefix* ( Select | Ask ) ( 'VALUES' Block )?
unfoldable pub query : Rule Query
query = made (λ p. p.1) (then_by prologue (shape_of (body [])) body)
