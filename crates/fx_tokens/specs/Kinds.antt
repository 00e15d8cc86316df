-- Which texts are tokens of a kind (SPARQL 1.1 section 19.8, and section 19.7 for escapes).
use Rattle.std.specs.Prelude.{◌≡◌, ℕ, Bool, List}
use Rattle.std.specs.Char.{is_ascii_hexdigit}
use Rattle.fx_terms.specs.Names.{is_base_char, is_name_start, is_name_char}
use Rattle.fx_tokens.specs.Classes as class
use Rattle.fx_tokens.specs.Forms.{One, Then, Repeat, Either, Maybe, AtLeastOne, Hex}
use Rattle.fx_tokens.specs.declared.TokenKind.{TokenKind}
use Rattle.fx_tokens.specs.declared.TokenKind.TheVariants as kind

-- this character
abbrev pub Is : ℕ → List ℕ → Type 0
Is c = One (class.is c)

-- \uXXXX or \UXXXXXXXX behind the backslash, where the character that it names passes a test
abbrev pub Code : (ℕ → Bool) → List ℕ → Type 0
Code fits = Either (Then (Is 117) (Hex fits 4)) (Then (Is 85) (Hex fits 8))

-- IRIREF, where a character may be written as \uXXXX or \UXXXXXXXX
abbrev pub IriPart : List ℕ → Type 0
IriPart = Either (One class.is_iri_char) (Then (Is 92) (Code class.is_iri_scalar))

abbrev pub Iri : List ℕ → Type 0
Iri = Then (Is 60) (Then (Repeat IriPart) (Is 62))

-- any number of a form with dots between and before, the last not a dot
abbrev pub Dotted : (List ℕ → Type 0) → List ℕ → Type 0
Dotted part = Repeat (Then (Repeat (Is 46)) part)

-- PLX
abbrev pub LocalEscape : List ℕ → Type 0
LocalEscape = Either (Then (Is 37) (Then (One is_ascii_hexdigit) (One is_ascii_hexdigit))) (Then (Is 92) (One class.is_local_escape))

-- PN_LOCAL
abbrev pub Local : List ℕ → Type 0
Local = Then (Either (One class.is_local_start) LocalEscape) (Dotted (Either (One class.is_local_char) LocalEscape))

-- PNAME_NS or PNAME_LN
abbrev pub ColonLocal : List ℕ → Type 0
ColonLocal = Then (Is 58) (Maybe Local)

abbrev pub PrefixName : List ℕ → Type 0
PrefixName = Either ColonLocal (Then (One is_base_char) (Then (Dotted (One class.is_part_char)) ColonLocal))

-- VAR1 or VAR2
abbrev pub Variable : List ℕ → Type 0
Variable = Then (One class.is_variable_mark) (Then (One is_name_start) (Repeat (One is_name_char)))

-- BLANK_NODE_LABEL
abbrev pub Blank : List ℕ → Type 0
Blank = Then (Is 95) (Then (Is 58) (Then (One is_name_start) (Dotted (One class.is_part_char))))

-- LANGTAG
abbrev pub TagPart : List ℕ → Type 0
TagPart = Then (Is 45) (AtLeastOne (One class.is_letter_or_digit))

abbrev pub Tag : List ℕ → Type 0
Tag = Then (Is 64) (Then (One class.is_letter) (Then (Repeat (One class.is_letter)) (Repeat TagPart)))

-- INTEGER
abbrev pub Integer : List ℕ → Type 0
Integer = AtLeastOne (One class.is_digit)

-- INTEGER_POSITIVE or INTEGER_NEGATIVE
abbrev pub Signed : List ℕ → Type 0
Signed = Then (One class.is_sign) Integer

-- EXPONENT
abbrev pub Exponent : List ℕ → Type 0
Exponent = Then (One class.is_exponent) (Either Integer (Then (One class.is_sign) Integer))

-- a decimal or double: digits or none, a dot, digits, and maybe an exponent; or digits, maybe a dot, and an exponent
abbrev pub Unsigned : List ℕ → Type 0
Unsigned =
    Either (Then (Repeat (One class.is_digit)) (Then (Is 46) (Then (One class.is_digit) (Then (Repeat (One class.is_digit)) (Maybe Exponent)))))
    (Then (One class.is_digit) (Then (Repeat (One class.is_digit)) (Either Exponent (Then (Is 46) Exponent))))

abbrev pub Decimal : List ℕ → Type 0
Decimal = Either Unsigned (Then (One class.is_sign) Unsigned)

-- ECHAR, \uXXXX or \UXXXXXXXX
abbrev pub Escape : List ℕ → Type 0
Escape = Then (Is 92) (Either (One class.is_escape_letter) (Code class.is_scalar))

-- what stands between two quotes
abbrev pub TextPart : ℕ → List ℕ → Type 0
TextPart quote = Either (One (class.is_plain quote)) Escape

-- STRING_LITERAL1 or STRING_LITERAL2
abbrev pub Short : ℕ → List ℕ → Type 0
Short quote = Then (Is quote) (Then (Repeat (TextPart quote)) (Is quote))

-- what stands between three quotes, behind at most two of them
abbrev pub LongPart : ℕ → List ℕ → Type 0
LongPart quote = Either (One (class.is_long_plain quote)) Escape

abbrev pub Quoted : ℕ → List ℕ → Type 0
Quoted quote = Either (LongPart quote) (Then (Is quote) (Either (LongPart quote) (Then (Is quote) (LongPart quote))))

abbrev pub Three : ℕ → List ℕ → Type 0
Three quote = Then (Is quote) (Then (Is quote) (Is quote))

-- STRING_LITERAL_LONG1 or STRING_LITERAL_LONG2
abbrev pub Long : ℕ → List ℕ → Type 0
Long quote = Then (Three quote) (Then (Repeat (Quoted quote)) (Three quote))

abbrev pub Text : List ℕ → Type 0
Text = Either (Either (Short 39) (Short 34)) (Either (Long 39) (Long 34))

-- a keyword
abbrev pub Word : List ℕ → Type 0
Word = Then (One class.is_letter) (Repeat (One class.is_word_char))

-- { } ( ) [ ] . ; , * / | ^ + - ? ! = < > != <= >= && || ^^
abbrev pub Mark : List ℕ → Type 0
Mark = Either (One class.is_mark) (Either (Then (One class.is_before_equal) (Is 61)) (Either (Then (Is 38) (Is 38)) (Either (Then (Is 124) (Is 124)) (Then (Is 94) (Is 94)))))

-- this text is a token of the kind
abbrev pub IsToken : TokenKind → List ℕ → Type 0
IsToken kind.Iri = Iri
IsToken kind.PrefixName = PrefixName
IsToken kind.Variable = Variable
IsToken kind.Blank = Blank
IsToken kind.Tag = Tag
IsToken kind.Integer = Integer
IsToken kind.Signed = Signed
IsToken kind.Decimal = Decimal
IsToken kind.Text = Text
IsToken kind.Word = Word
IsToken kind.Mark = Mark

-- the law: no text is a token of two kinds
abbrev pub OneKind : Type 0
OneKind = (a b : TokenKind) (text : List ℕ) → IsToken a text → IsToken b text → a ≡ b
