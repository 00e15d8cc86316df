-- Which texts are IRIs, by their bytes (this project's profile of RFC 3987: absolute IRIs alone). Every character that the
-- rule names is ASCII, so bytes serve.
use Rattle.std.specs.Prelude.{◌≡◌, ℕ, Bool, true, false, List, [], ◌∷◌, Option, Some, None, Result, Ok, Err, ◌&&◌, ◌||◌, ◌==◌, nat_le, if◌then◌else◌, position}
use Rattle.std.specs.Str.{IsUtf8}
use Rattle.fx_terms.specs.declared.iris.TermError.{TermError}
use Rattle.fx_terms.specs.declared.iris.TermError.TheVariants.{Relative, BadCharacter}

-- U+0000 to U+0020, and < > " { } | ^ ` \
abbrev pub is_forbidden : ℕ → Bool
is_forbidden b = nat_le b 32 || b == 60 || b == 62 || b == 34 || b == 123 || b == 125 || b == 124 || b == 94 || b == 96 || b == 92

-- a to z, A to Z
abbrev pub is_letter : ℕ → Bool
is_letter b = (nat_le 65 b && nat_le b 90) || (nat_le 97 b && nat_le b 122)

-- 0 to 9
abbrev pub is_digit : ℕ → Bool
is_digit b = nat_le 48 b && nat_le b 57

-- a letter, a digit, + - or .
abbrev pub is_scheme_byte : ℕ → Bool
is_scheme_byte b = is_letter b || is_digit b || b == 43 || b == 45 || b == 46

-- bytes of a scheme, and then a colon
abbrev pub scheme_ends : List ℕ → Bool
scheme_ends [] = false
scheme_ends (b ∷ bs) = if b == 58 then true else (is_scheme_byte b && scheme_ends bs)

-- a letter, bytes of a scheme, and then a colon
abbrev pub has_scheme : List ℕ → Bool
has_scheme [] = false
has_scheme (b ∷ bs) = is_letter b && scheme_ends bs

-- a text that has no forbidden byte is an IRI where it begins with a scheme
abbrev pub iri_with_scheme : List ℕ → Bool → Result (List ℕ) TermError
iri_with_scheme text true = Ok text
iri_with_scheme text false = Err Relative

-- by the place of the first forbidden byte
abbrev pub iri_after : List ℕ → Option ℕ → Result (List ℕ) TermError
iri_after text (Some place) = Err (BadCharacter place)
iri_after text None = iri_with_scheme text (has_scheme text)

-- the IRI that a text is, or what is wrong with it
abbrev pub read_iri : List ℕ → Result (List ℕ) TermError
read_iri text = iri_after text (position is_forbidden text)

-- the text is an IRI, in UTF-8
pub record IsIri (text : List ℕ) : Type 0 where
  pub utf8 : IsUtf8 text
  pub iri : read_iri text ≡ Ok text
