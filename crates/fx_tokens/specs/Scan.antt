-- The same forms, read from left to right: the text behind the longest front that is of a form, where there is one.
use Rattle.std.specs.Prelude.{◌≡◌, ◌<◌, ◌++◌, ℕ, ◌+◌, ◌*◌, Bool, true, false, List, [], ◌∷◌, length, Option, Some, None, option_and_then, if◌then◌else◌, suc, zero, nat_lt}
use Rattle.std.specs.Char.{digit_value, is_ascii_hexdigit}
use Rattle.fx_terms.specs.Names.{is_base_char, is_name_start, is_name_char}
use Rattle.fx_tokens.specs.Classes as class
use Rattle.fx_tokens.specs.Answers.{width}
use Rattle.fx_tokens.specs.declared.TokenKind.{TokenKind}
use Rattle.fx_tokens.specs.declared.TokenKind.TheVariants as kind
use Rattle.fx_tokens.specs.declared.kinds.Part.{Part}
use Rattle.fx_tokens.specs.declared.kinds.Part.TheVariants as part

-- goes on behind what was read
abbrev pub and_then : Option (List ℕ) → (List ℕ → Option (List ℕ)) → Option (List ℕ)
and_then read f = option_and_then f read

abbrev pub or_else : Option (List ℕ) → Option (List ℕ) → Option (List ℕ)
or_else None other = other
or_else (Some rest) other = Some rest

-- one way, where its beginning was read, and else the other
abbrev pub and_or : Option (List ℕ) → (List ℕ → Option (List ℕ)) → Option (List ℕ) → Option (List ℕ)
and_or None f other = other
and_or (Some rest) f other = f rest

-- the one that leaves less, the first of two that leave as much
abbrev pub longer : Option (List ℕ) → Option (List ℕ) → Option (List ℕ)
longer None other = other
longer (Some rest) None = Some rest
longer (Some rest) (Some other) = if nat_lt (width other) (width rest) then Some other else Some rest

-- the text itself, where nothing was read
abbrev pub or_here : Option (List ℕ) → List ℕ → List ℕ
or_here None text = text
or_here (Some rest) text = rest

unfoldable pub one : (ℕ → Bool) → List ℕ → Option (List ℕ)
one p [] = None
one p (c ∷ text) = if p c then Some text else None

-- reads a form again and again
abbrev pub again : (List ℕ → List ℕ) → List ℕ → Option (List ℕ) → List ℕ
again skip text None = text
again skip text (Some rest) = skip rest

abbrev pub skip_within : ℕ → (List ℕ → Option (List ℕ)) → List ℕ → List ℕ
skip_within zero read text = text
skip_within (suc n) read text = again (skip_within n read) text (read text)

unfoldable pub skip : (List ℕ → Option (List ℕ)) → List ℕ → List ℕ
skip read text = skip_within (length text) read text

abbrev pub some : (ℕ → Bool) → List ℕ → Option (List ℕ)
some p text = and_then (one p text) (λ rest. Some (skip (one p) rest))

-- hexadecimal digits, behind those of a number
abbrev pub and_number : Option (ℕ × List ℕ) → (ℕ → List ℕ → Option (ℕ × List ℕ)) → Option (ℕ × List ℕ)
and_number None f = None
and_number (Some p) f = f p.0 p.1

unfoldable pub digit : ℕ → List ℕ → Option (ℕ × List ℕ)
digit high [] = None
digit high (c ∷ text) = if is_ascii_hexdigit c then Some (high * 16 + digit_value c, text) else None

unfoldable pub hexes : ℕ → ℕ → List ℕ → Option (ℕ × List ℕ)
hexes zero high text = Some (high, text)
hexes (suc n) high text = and_number (digit high text) (hexes n)

abbrev pub fitting : (ℕ → Bool) → Option (ℕ × List ℕ) → Option (List ℕ)
fitting fits None = None
fitting fits (Some p) = if fits p.0 then Some p.1 else None

unfoldable pub short_code : (ℕ → Bool) → List ℕ → Option (List ℕ)
short_code fits text = fitting fits (hexes 4 0 text)

unfoldable pub long_code : (ℕ → Bool) → List ℕ → Option (List ℕ)
long_code fits text = fitting fits (and_number (hexes 4 0 text) (hexes 4))

-- what a code may name, in an IRI and elsewhere
abbrev pub fits : Bool → ℕ → Bool
fits true = class.is_iri_scalar
fits false = class.is_scalar

abbrev pub is : ℕ → List ℕ → Option (List ℕ)
is c = one (class.is c)

unfoldable pub code : (ℕ → Bool) → List ℕ → Option (List ℕ)
code fits text = and_or (is 117 text) (short_code fits) (and_then (is 85 text) (long_code fits))

unfoldable pub iri_part : List ℕ → Option (List ℕ)
iri_part text = or_else (one class.is_iri_char text) (and_then (is 92 text) (code class.is_iri_scalar))

unfoldable pub iri : List ℕ → Option (List ℕ)
iri text = and_then (is 60 text) (λ rest. is 62 (skip iri_part rest))

-- dots, and then a character of a name
unfoldable pub name_part : List ℕ → Option (List ℕ)
name_part text = one class.is_part_char (skip (is 46) text)

unfoldable pub local_escape : List ℕ → Option (List ℕ)
local_escape text = and_or (is 37 text) (λ rest. and_then (one is_ascii_hexdigit rest) (one is_ascii_hexdigit)) (and_then (is 92 text) (one class.is_local_escape))

unfoldable pub local_start : List ℕ → Option (List ℕ)
local_start text = or_else (one class.is_local_start text) (local_escape text)

unfoldable pub local_char : List ℕ → Option (List ℕ)
local_char text = or_else (one class.is_local_char text) (local_escape text)

-- dots, and then a character of a local name
unfoldable pub local_part : List ℕ → Option (List ℕ)
local_part text = local_char (skip (is 46) text)

unfoldable pub local : List ℕ → Option (List ℕ)
local text = and_then (local_start text) (λ rest. Some (skip local_part rest))

unfoldable pub colon_local : List ℕ → Option (List ℕ)
colon_local text = and_then (is 58 text) (λ rest. Some (or_here (local rest) rest))

unfoldable pub long_prefix : List ℕ → Option (List ℕ)
long_prefix text = and_then (one is_base_char text) (λ rest. colon_local (skip name_part rest))

-- no name with a prefix that isn't empty begins where more than so many bytes are left
abbrev pub Barren : ℕ → List ℕ → Type 0
Barren n text = (front back : List ℕ) → text ≡ front ++ back → n < width back → long_prefix back ≡ None

unfoldable pub prefix_name : List ℕ → Option (List ℕ)
prefix_name text = longer (colon_local text) (long_prefix text)

unfoldable pub variable : List ℕ → Option (List ℕ)
variable text = and_then (one class.is_variable_mark text) (λ rest. and_then (one is_name_start rest) (λ rest. Some (skip (one is_name_char) rest)))

unfoldable pub blank : List ℕ → Option (List ℕ)
blank text = and_then (is 95 text) (λ rest. and_then (is 58 rest) (λ rest. and_then (one is_name_start rest) (λ rest. Some (skip name_part rest))))

unfoldable pub tag_part : List ℕ → Option (List ℕ)
tag_part text = and_then (is 45 text) (some class.is_letter_or_digit)

unfoldable pub tag : List ℕ → Option (List ℕ)
tag text = and_then (is 64 text) (λ rest. and_then (one class.is_letter rest) (λ rest. Some (skip tag_part (skip (one class.is_letter) rest))))

abbrev pub integer : List ℕ → Option (List ℕ)
integer = some class.is_digit

unfoldable pub signed : List ℕ → Option (List ℕ)
signed text = and_then (one class.is_sign text) integer

unfoldable pub exponent : List ℕ → Option (List ℕ)
exponent text = and_then (one class.is_exponent text) (λ rest. longer (integer rest) (signed rest))

unfoldable pub pointed : List ℕ → Option (List ℕ)
pointed text = and_then (is 46 (skip (one class.is_digit) text)) (λ rest. and_then (integer rest) (λ rest. Some (or_here (exponent rest) rest)))

unfoldable pub dot_exponent : List ℕ → Option (List ℕ)
dot_exponent text = and_then (is 46 text) exponent

unfoldable pub powered : List ℕ → Option (List ℕ)
powered text = and_then (integer text) (λ rest. longer (exponent rest) (dot_exponent rest))

unfoldable pub unsigned : List ℕ → Option (List ℕ)
unsigned text = longer (pointed text) (powered text)

unfoldable pub decimal : List ℕ → Option (List ℕ)
decimal text = longer (unsigned text) (and_then (one class.is_sign text) unsigned)

unfoldable pub escape : List ℕ → Option (List ℕ)
escape text = and_then (is 92 text) (λ rest. or_else (one class.is_escape_letter rest) (code class.is_scalar rest))

unfoldable pub text_part : ℕ → List ℕ → Option (List ℕ)
text_part quote text = or_else (one (class.is_plain quote) text) (escape text)

unfoldable pub short : ℕ → List ℕ → Option (List ℕ)
short quote text = and_then (is quote text) (λ rest. is quote (skip (text_part quote) rest))

unfoldable pub long_part : ℕ → List ℕ → Option (List ℕ)
long_part quote text = or_else (one (class.is_long_plain quote) text) (escape text)

-- a part behind at most one quote
unfoldable pub quoted_once : ℕ → List ℕ → Option (List ℕ)
quoted_once quote text = or_else (long_part quote text) (and_then (is quote text) (long_part quote))

-- a part behind at most two quotes
unfoldable pub quoted : ℕ → List ℕ → Option (List ℕ)
quoted quote text = or_else (long_part quote text) (and_then (is quote text) (quoted_once quote))

unfoldable pub three : ℕ → List ℕ → Option (List ℕ)
three quote text = and_then (is quote text) (λ rest. and_then (is quote rest) (is quote))

unfoldable pub long : ℕ → List ℕ → Option (List ℕ)
long quote text = and_then (three quote text) (λ rest. three quote (skip (quoted quote) rest))

unfoldable pub string : List ℕ → Option (List ℕ)
string text = longer (longer (short 39 text) (short 34 text)) (longer (long 39 text) (long 34 text))

unfoldable pub word : List ℕ → Option (List ℕ)
word text = and_then (one class.is_letter text) (λ rest. Some (skip (one class.is_word_char) rest))

unfoldable pub pair : (ℕ → Bool) → ℕ → List ℕ → Option (List ℕ)
pair p c text = and_then (one p text) (is c)

unfoldable pub mark : List ℕ → Option (List ℕ)
mark text = longer (one class.is_mark text) (longer (pair class.is_before_equal 61 text) (longer (pair (class.is 38) 38 text) (longer (pair (class.is 124) 124 text) (pair (class.is 94) 94 text))))

-- the parts that are repeated
abbrev pub part_of : Part → List ℕ → Option (List ℕ)
part_of part.Iri = iri_part
part_of part.Name = name_part
part_of part.Local = local_part
part_of part.Tag = tag_part
part_of (part.Text q) = text_part (class.quote q)
part_of (part.Long q) = quoted (class.quote q)

-- the one that leaves less, the first of two that leave as much
abbrev pub better : Option (TokenKind × List ℕ) → TokenKind → Option (List ℕ) → Option (TokenKind × List ℕ)
better None kind None = None
better None kind (Some rest) = Some (kind, rest)
better (Some best) kind None = Some best
better (Some best) kind (Some rest) = if nat_lt (width rest) (width best.1) then Some (kind, rest) else Some best

-- the kind of the longest token at the front, and the text behind it
unfoldable pub early : List ℕ → Option (TokenKind × List ℕ)
early text = better (better (better (better (better (better None kind.Iri (iri text)) kind.PrefixName (prefix_name text)) kind.Variable (variable text)) kind.Blank (blank text)) kind.Tag (tag text)) kind.Integer (integer text)

unfoldable pub longest : List ℕ → Option (TokenKind × List ℕ)
longest text = better (better (better (better (better (early text) kind.Signed (signed text)) kind.Decimal (decimal text)) kind.Text (string text)) kind.Word (word text)) kind.Mark (mark text)
