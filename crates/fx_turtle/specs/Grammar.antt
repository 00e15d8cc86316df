-- The grammar of Turtle (RDF 1.1 Turtle section 6.5, in this profile), a rule for each production, in the order in which they are
-- read. What Turtle has and this profile leaves out is refused by name at its place. A name with a prefix is read by the prefixes
-- that were declared before it.
use Rattle.std.specs.Prelude.{ℕ, Bool, ◌||◌, if◌then◌else◌, List, [], ◌∷◌, ◌++◌, map, Option, Result, Ok, Err}
use Rattle.std.specs.List.{flat_map}
use Rattle.fx_terms.specs.Literals.{is_tag}
use Rattle.fx_terms.specs.declared.terms.Term.{Term}
use Rattle.fx_terms.specs.declared.terms.Term.TheVariants as term
use Rattle.fx_terms.specs.declared.triples.Triple.{Triple}
use Rattle.fx_grammar.specs.Grammar.{rdf_type, Prefixes, declared, expanded, not_lang_string, annotated, option_list}
use Rattle.fx_grammar.specs.declared.parts.Annotation.{Annotation}
use Rattle.fx_grammar.specs.declared.parts.Annotation.TheVariants as annotation
use Rattle.fx_grammar.specs.declared.refusals.SyntaxKind.{SyntaxKind}
use Rattle.fx_grammar.specs.declared.refusals.SyntaxKind.TheVariants as syntax
use Rattle.fx_turtle.specs.Symbols as symbol
use Rattle.fx_turtle.specs.Symbols.{Symbol, is}
use Rattle.fx_turtle.specs.Rule.{Rule, Refusal, stops_whole, shape_of, one, token, refusing, made, seq, after, before, either, opt, many_from, many, chain}
use Rattle.fx_turtle.specs.declared.kinds.Kind.{Kind}
use Rattle.fx_turtle.specs.declared.kinds.Kind.TheVariants as k
use Rattle.fx_turtle.specs.declared.refusals.TurtleKind.{TurtleKind}
use Rattle.fx_turtle.specs.declared.refusals.TurtleKind.TheVariants.{Blank, Unsupported, UnknownPrefix, Relative, BadLiteral, Unexpected}

-- ---- what a symbol says

abbrev pub text_of : Symbol → Result (List ℕ) TurtleKind
text_of (symbol.text text) = Ok text
text_of _ = Err Unexpected

abbrev pub tag_of : Symbol → Result (List ℕ) TurtleKind
tag_of (symbol.tag tag) = if is_tag tag then Ok tag else Err Unexpected
tag_of _ = Err Unexpected

-- a number or a truth value
abbrev pub value_of : Symbol → Result Term TurtleKind
value_of (symbol.number parts) = Ok (term.Literal parts)
value_of (symbol.truth parts) = Ok (term.Literal parts)
value_of _ = Err Unexpected

-- the name that is declared: nothing stands behind its colon
abbrev pub namespace_of : Symbol → Result (List ℕ) TurtleKind
namespace_of (symbol.prefix_name prefix []) = Ok prefix
namespace_of _ = Err Unexpected

abbrev pub iri_of : Symbol → Result (List ℕ) TurtleKind
iri_of (symbol.iri iri) = Ok iri
iri_of _ = Err Unexpected

-- ---- names with prefixes, which are declared, expanded and refused as in queries

abbrev pub turtle_kind : SyntaxKind → TurtleKind
turtle_kind syntax.UnknownPrefix = UnknownPrefix
turtle_kind syntax.RelativeIri = Relative
turtle_kind syntax.BadLiteral = BadLiteral
turtle_kind _ = Unexpected

abbrev pub as_turtle : Result (List ℕ) SyntaxKind → Result (List ℕ) TurtleKind
as_turtle (Ok iri) = Ok iri
as_turtle (Err why) = Err (turtle_kind why)

-- the IRI that a symbol names
abbrev pub named_by : Prefixes → Symbol → Result (List ℕ) SyntaxKind
named_by ps (symbol.iri iri) = Ok iri
named_by ps (symbol.prefix_name prefix local) = expanded (declared ps prefix) local
named_by ps _ = Err syntax.Unexpected

-- ---- kinds of symbols at a place

abbrev pub is_iri_name : Kind → Bool
is_iri_name kind = is k.Iri kind || is k.PrefixName kind

-- behind a text each of them is a tag
abbrev pub is_any_tag : Kind → Bool
is_any_tag kind = is k.Tag kind || is k.AtPrefix kind || is k.AtBase kind

abbrev pub is_value : Kind → Bool
is_value kind = is k.Number kind || is k.Truth kind

abbrev pub begins_blank_node : Kind → Bool
begins_blank_node kind = is k.Blank kind || is k.LeftBracket kind

abbrev pub begins_base : Kind → Bool
begins_base kind = is k.AtBase kind || is k.Base kind

-- ---- triples

-- a verb and its objects
abbrev pub Property : Type 0
Property = List ℕ × List Term

-- the triples of a subject, in text order
abbrev pub property_triples : List ℕ → Property → List Triple
property_triples subject p = map (λ object. record { subject = subject; predicate = p.0; object = object }) p.1

abbrev pub triples_of : List ℕ → List Property → List Triple
triples_of subject properties = flat_map (property_triples subject) properties

-- blank nodes and collections, where a subject or an object may begin
unfoldable pub left_out : {A : Type 0} → Rule A
left_out = either (refusing Blank begins_blank_node) (refusing Unsupported (is k.LeftParen))

module _ (ps : Prefixes) where
  -- IriName = Iri | PrefixName
  unfoldable pub iri_name : Rule (List ℕ)
  iri_name = one is_iri_name (λ s. as_turtle (named_by ps s))

  unfoldable pub datatype : Rule (List ℕ)
  datatype = one is_iri_name (λ s. as_turtle (not_lang_string (named_by ps s)))

  -- Tag | '^^' IriName
  unfoldable pub text_suffix : Rule Annotation
  text_suffix = either (made annotation.Tag (one is_any_tag tag_of)) (made annotation.Datatype (after (token k.CaretCaret) datatype))

  -- Literal = Text ( Tag | '^^' IriName )? | Integer | Signed | Decimal | 'true' | 'false'
  unfoldable pub literal : Rule Term
  literal = either (made (λ p. annotated p.0 p.1) (seq (one (is k.Text) text_of) (opt text_suffix))) (one is_value value_of)

  -- Object = IriName | Literal
  unfoldable pub object : Rule Term
  object = either (made term.Iri iri_name) (either left_out literal)

  unfoldable pub subject : Rule (List ℕ)
  subject = either iri_name left_out

  -- Verb = IriName | 'a'
  unfoldable pub verb : Rule (List ℕ)
  verb = either (made (λ u. rdf_type) (token k.A)) iri_name

  -- Objects = Object ( ',' Object )*
  unfoldable pub property : Rule Property
  property = seq verb (chain k.Comma object)

  -- List = Verb Objects ( ';' ( Verb Objects )? )*
  unfoldable pub more_properties : Rule (List (Option Property))
  more_properties = many (after (token k.Semicolon) (opt property))

  unfoldable pub properties : Rule (List Property)
  properties = made (λ p. p.0 ∷ flat_map option_list p.1) (seq property more_properties)

  -- Triples = IriName List
  unfoldable pub triples : Rule (List Triple)
  triples = made (λ p. triples_of p.0 p.1) (seq subject properties)

-- ---- documents

-- what a statement says
pub data Statement : Type 0 where
  -- this prefix stands for this IRI from here on
  declares : List ℕ → List ℕ → Statement
  holds : List Triple → Statement

abbrev pub declare : Prefixes → Statement → Prefixes
declare ps (declares prefix iri) = ps ++ (prefix, iri) ∷ []
declare ps (holds said) = ps

abbrev pub triples_in : Statement → List Triple
triples_in (declares prefix iri) = []
triples_in (holds said) = said

-- PNAME_NS Iri
unfoldable pub declaration : Rule Statement
declaration = made (λ p. declares p.0 p.1) (seq (one (is k.PrefixName) namespace_of) (one (is k.Iri) iri_of))

-- Statement = '@prefix' PNAME_NS Iri '.' | 'PREFIX' PNAME_NS Iri | Triples '.'
unfoldable pub statement : Prefixes → Rule Statement
statement ps =
    either (after (token k.AtPrefix) (before declaration (token k.Dot)))
    (either (after (token k.Prefix) declaration)
    (either (refusing Unsupported begins_base)
    (made holds (before (triples ps) (token k.Dot)))))

-- statements, behind those that declared some prefixes
unfoldable pub statements : Prefixes → Rule (List Statement)
statements = many_from (shape_of (statement [])) statement declare

-- Document = Statement*
unfoldable pub document : Rule (List Triple)
document = made (flat_map triples_in) (statements [])

-- ---- windows: documents that are read statement by statement

-- the prefixes that are declared behind some statements
abbrev pub behind : Prefixes → List Statement → Prefixes
behind ps [] = ps
behind ps (s ∷ said) = behind (declare ps s) said

-- what symbols spell, and then what those behind them spell by the prefixes so far, is what all of them spell; and where those behind
-- them stop, all of them stop, for the same reason at the same symbol
pub record WindowsAreTheWhole : Type 0 where
  pub spelled : (ps : Prefixes) (window rest : List Symbol) (front back : List Statement) → (statements ps).spells window front → (statements (behind ps front)).spells rest back → (statements ps).spells (window ++ rest) (front ++ back)
  pub stopped : (ps : Prefixes) (window rest : List Symbol) (front : List Statement) (refusal : Refusal) → (statements ps).spells window front → stops_whole (statements (behind ps front)) rest refusal → stops_whole (statements ps) (window ++ rest) refusal
