-- What the grammar of Turtle makes of a token (RDF 1.1 Turtle section 6.5): by its kind and characters alone, wherever it stands.
-- The tokens are those of SPARQL 1.1, whose forms Turtle shares.
use Rattle.std.specs.Prelude.{ℕ, Bool, nat_eq, ◌||◌, if◌then◌else◌, List, map, codes, slice_range, Result, Ok, Err}
use Rattle.std.specs.List.{list_any}
use Rattle.std.specs.Str.{bytes_eq, chars, encode_utf8_all}
use Rattle.std.specs.Char.{to_ascii_uppercase}
use Rattle.fx_terms.specs.Datatypes.{xsd_integer, xsd_boolean}
use Rattle.fx_terms.specs.Iris.{read_iri}
use Rattle.fx_terms.specs.Literals.{LiteralParts}
use Rattle.fx_terms.specs.declared.iris.TermError.{TermError}
use Rattle.fx_tokens.specs.Classes.{is_exponent}
use Rattle.fx_tokens.specs.Decoding.{behind_first, iri_text, between_quotes, prefix, behind_colon, local}
use Rattle.fx_tokens.specs.declared.Token as read
use Rattle.fx_tokens.specs.declared.TokenKind.{TokenKind}
use Rattle.fx_tokens.specs.declared.TokenKind.TheVariants as kind
use Rattle.fx_grammar.specs.Grammar.{typed_parts}
use Rattle.fx_turtle.specs.declared.kinds.Kind.{Kind}
use Rattle.fx_turtle.specs.declared.kinds.Kind.TheVariants as k

-- a token, with as much of its text as the grammar needs
pub data Symbol : Type 0 where
  -- no more than its kind
  plain : Kind → Symbol
  iri : List ℕ → Symbol
  -- what stands before the colon, and what stands behind it without its backslashes
  prefix_name : List ℕ → List ℕ → Symbol
  -- what stands between the quotes
  text : List ℕ → Symbol
  -- a tag, without its @
  tag : List ℕ → Symbol
  number : LiteralParts → Symbol
  truth : LiteralParts → Symbol

-- ---- kinds

-- each kind has a number of its own
abbrev pub rank : Kind → ℕ
rank k.Iri = 0
rank k.Relative = 1
rank k.PrefixName = 2
rank k.Text = 3
rank k.Tag = 4
rank k.AtPrefix = 5
rank k.AtBase = 6
rank k.Prefix = 7
rank k.Base = 8
rank k.A = 9
rank k.Number = 10
rank k.Truth = 11
rank k.Blank = 12
rank k.LeftBracket = 13
rank k.LeftParen = 14
rank k.Dot = 15
rank k.Semicolon = 16
rank k.Comma = 17
rank k.CaretCaret = 18
rank k.Other = 19

abbrev pub is : Kind → Kind → Bool
is a b = nat_eq (rank a) (rank b)

-- two tags may begin a statement, by just these bytes
abbrev pub tag_kind : List ℕ → Kind
tag_kind name = if bytes_eq name (codes "prefix") then k.AtPrefix else (if bytes_eq name (codes "base") then k.AtBase else k.Tag)

abbrev pub kind_of : Symbol → Kind
kind_of (plain kind) = kind
kind_of (iri a) = k.Iri
kind_of (prefix_name a b) = k.PrefixName
kind_of (text a) = k.Text
kind_of (tag a) = tag_kind a
kind_of (number a) = k.Number
kind_of (truth a) = k.Truth

-- ---- what each token says

-- xsd:decimal and xsd:double
abbrev pub xsd_decimal : List ℕ
xsd_decimal = codes "http://www.w3.org/2001/XMLSchema#decimal"

abbrev pub xsd_double : List ℕ
xsd_double = codes "http://www.w3.org/2001/XMLSchema#double"

abbrev pub integer_of : List ℕ → Symbol
integer_of digits = number (typed_parts digits xsd_integer)

-- a number with an exponent is a double, and one without is a decimal
abbrev pub decimal_of : List ℕ → Symbol
decimal_of form = number (typed_parts form (if list_any is_exponent form then xsd_double else xsd_decimal))

abbrev pub iri_or : Result (List ℕ) TermError → Symbol
iri_or (Ok a) = iri a
iri_or (Err e) = plain k.Relative

abbrev pub iri_of : List ℕ → Symbol
iri_of form = iri_or (read_iri (iri_text form))

abbrev pub prefix_name_of : List ℕ → Symbol
prefix_name_of form = prefix_name (encode_utf8_all (prefix form)) (encode_utf8_all (local (behind_colon form)))

-- PREFIX and BASE alone are read without regard to case
abbrev pub other_word : List ℕ → Kind
other_word upper = if bytes_eq upper (codes "PREFIX") then k.Prefix else (if bytes_eq upper (codes "BASE") then k.Base else k.Other)

abbrev pub word_of : List ℕ → Symbol
word_of form =
    if bytes_eq form (codes "a") then plain k.A
    else (if bytes_eq form (codes "true") || bytes_eq form (codes "false") then truth (typed_parts form xsd_boolean)
    else plain (other_word (map to_ascii_uppercase form)))

abbrev pub mark_of : List ℕ → Kind
mark_of form =
    if bytes_eq form (codes ".") then k.Dot
    else (if bytes_eq form (codes ";") then k.Semicolon
    else (if bytes_eq form (codes ",") then k.Comma
    else (if bytes_eq form (codes "^^") then k.CaretCaret
    else (if bytes_eq form (codes "[") then k.LeftBracket
    else (if bytes_eq form (codes "(") then k.LeftParen
    else k.Other)))))

abbrev pub symbol_of : TokenKind → List ℕ → Symbol
symbol_of kind.Iri form = iri_of form
symbol_of kind.PrefixName form = prefix_name_of (chars form)
symbol_of kind.Variable form = plain k.Other
symbol_of kind.Blank form = plain k.Blank
symbol_of kind.Tag form = tag (behind_first form)
symbol_of kind.Integer form = integer_of form
symbol_of kind.Signed form = integer_of form
symbol_of kind.Decimal form = decimal_of form
symbol_of kind.Text form = text (between_quotes form)
symbol_of kind.Word form = word_of form
symbol_of kind.Mark form = plain (mark_of form)

-- ---- the tokens of a text

abbrev pub says : List ℕ → read.Token → Symbol
says bytes t = symbol_of t.kind (slice_range bytes t.start t.end)

abbrev pub symbols : List ℕ → List read.Token → List Symbol
symbols bytes tokens = map (says bytes) tokens
