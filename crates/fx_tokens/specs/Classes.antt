-- Classes of characters: the productions 139 to 173 of SPARQL 1.1 section 19.8 that are one character long.
use Rattle.std.specs.Prelude.{ℕ, Bool, not, ◌&&◌, ◌||◌, ◌==◌, nat_le, is_some}
use Rattle.std.specs.Char.{is_ascii_hexdigit}
pub use Rattle.fx_terms.specs.Blanks.{is_blank, is_line_end}
use Rattle.fx_terms.specs.Escapes.{letter_escape}
pub use Rattle.fx_terms.specs.Iris.{is_digit, is_letter}
use Rattle.fx_terms.specs.Iris.{is_forbidden}
pub use Rattle.fx_terms.specs.Literals.{is_letter_or_digit}
use Rattle.fx_terms.specs.Names.{is_between, is_base_char, is_name_start, is_name_char}
use Rattle.fx_tokens.specs.declared.classes.Class.{Class}
use Rattle.fx_tokens.specs.declared.classes.Class.TheVariants as class
use Rattle.fx_tokens.specs.declared.classes.QuoteMark.{QuoteMark}
use Rattle.fx_tokens.specs.declared.classes.QuoteMark.TheVariants.{Single, Double}

-- this character
abbrev pub is : ℕ → ℕ → Bool
is a c = c == a

abbrev pub is_word_char : ℕ → Bool
is_word_char c = is_letter_or_digit c || c == 95

-- PN_CHARS: VARNAME's characters, and the dash
abbrev pub is_part_char : ℕ → Bool
is_part_char c = is_name_char c || c == 45

-- PN_LOCAL's first character, save PLX
abbrev pub is_local_start : ℕ → Bool
is_local_start c = is_name_start c || c == 58

-- PN_LOCAL's later characters, save PLX and dots
abbrev pub is_local_char : ℕ → Bool
is_local_char c = is_part_char c || c == 58

-- PN_LOCAL_ESC's character behind the backslash: _~.-!$&'()*+,;=/?#@%
abbrev pub is_local_escape : ℕ → Bool
is_local_escape c = is_between 35 47 c || (c == 33 || (c == 59 || (c == 61 || (c == 63 || (c == 64 || (c == 95 || c == 126))))))

abbrev pub is_variable_mark : ℕ → Bool
is_variable_mark c = c == 63 || c == 36

abbrev pub is_sign : ℕ → Bool
is_sign c = c == 43 || c == 45

-- e and E
abbrev pub is_exponent : ℕ → Bool
is_exponent c = c == 101 || c == 69

-- a character that UTF-8 has
abbrev pub is_scalar : ℕ → Bool
is_scalar c = nat_le c 0x10FFFF && not (is_between 0xD800 0xDFFF c)

-- what may stand in an IRI
abbrev pub is_iri_char : ℕ → Bool
is_iri_char c = not (is_forbidden c)

-- a character of the text that an IRI may hold
abbrev pub is_iri_scalar : ℕ → Bool
is_iri_scalar c = is_scalar c && is_iri_char c

-- ECHAR's character behind the backslash: t b n r f " ' \
abbrev pub is_escape_letter : ℕ → Bool
is_escape_letter c = is_some (letter_escape c)

-- what stands within a line, as in a comment
abbrev pub is_in_line : ℕ → Bool
is_in_line c = not (is_line_end c)

-- WS: a blank or a line end
abbrev pub is_white_space : ℕ → Bool
is_white_space c = is_blank c || is_line_end c

abbrev pub quote : QuoteMark → ℕ
quote Single = 39
quote Double = 34

-- what a text between three of these quotes holds as it is
abbrev pub is_long_plain : ℕ → ℕ → Bool
is_long_plain quote c = not (c == quote) && not (c == 92)

-- what a text between two of these quotes holds as it is
abbrev pub is_plain : ℕ → ℕ → Bool
is_plain quote c = is_long_plain quote c && is_in_line c

-- the marks of one character: { } ( ) [ ] . ; , * / | ^ + - ? ! = < >
abbrev pub is_mark : ℕ → Bool
is_mark c = is_between 40 47 c || (c == 123 || (c == 125 || (c == 91 || (c == 93 || (c == 59 || (c == 124 || (c == 94 || (c == 63 || (c == 33 || is_between 60 62 c)))))))))

-- the first characters of != <= >=
abbrev pub is_before_equal : ℕ → Bool
is_before_equal c = c == 33 || (c == 60 || c == 62)

-- what a class of the code holds
abbrev pub holds : Class → ℕ → Bool
holds (class.Is a) = is a
holds class.Digit = is_digit
holds class.Letter = is_letter
holds class.LetterOrDigit = is_letter_or_digit
holds class.WordChar = is_word_char
holds class.BaseChar = is_base_char
holds class.NameStart = is_name_start
holds class.NameChar = is_name_char
holds class.PartChar = is_part_char
holds class.LocalStart = is_local_start
holds class.LocalChar = is_local_char
holds class.LocalEscape = is_local_escape
holds class.HexDigit = is_ascii_hexdigit
holds class.VariableMark = is_variable_mark
holds class.Sign = is_sign
holds class.Exponent = is_exponent
holds class.IriChar = is_iri_char
holds class.EscapeLetter = is_escape_letter
holds class.InLine = is_in_line
holds (class.Plain q) = is_plain (quote q)
holds (class.LongPlain q) = is_long_plain (quote q)
holds class.OneMark = is_mark
holds class.BeforeEqual = is_before_equal
