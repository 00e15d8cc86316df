-- Which texts name a variable: VARNAME of SPARQL 1.1 section 19.8.
use Rattle.std.specs.Prelude.{◌≡◌, ℕ, Bool, true, false, List, [], ◌∷◌, Result, Ok, Err, ◌&&◌, ◌||◌, ◌==◌, nat_le}
use Rattle.std.specs.List.{list_all}
use Rattle.std.specs.Str.{chars, IsUtf8}
use Rattle.fx_terms.specs.declared.names.NameError.{NameError}
use Rattle.fx_terms.specs.declared.names.NameError.TheVariants.{BadName}

abbrev pub is_between : ℕ → ℕ → ℕ → Bool
is_between low high c = nat_le low c && nat_le c high

-- PN_CHARS_BASE up to U+02FF: letters of Latin scripts
abbrev pub is_latin : ℕ → Bool
is_latin c = is_between 65 90 c || is_between 97 122 c || is_between 0xC0 0xD6 c || is_between 0xD8 0xF6 c || is_between 0xF8 0x2FF c

-- PN_CHARS_BASE from U+0370 to the surrogates
abbrev pub is_below_surrogates : ℕ → Bool
is_below_surrogates c =
    is_between 0x370 0x37D c || is_between 0x37F 0x1FFF c || is_between 0x200C 0x200D c
    || is_between 0x2070 0x218F c || is_between 0x2C00 0x2FEF c || is_between 0x3001 0xD7FF c

-- PN_CHARS_BASE above the surrogates
abbrev pub is_above_surrogates : ℕ → Bool
is_above_surrogates c = is_between 0xF900 0xFDCF c || is_between 0xFDF0 0xFFFD c || is_between 0x10000 0xEFFFF c

-- PN_CHARS_BASE
abbrev pub is_base_char : ℕ → Bool
is_base_char c = is_latin c || is_below_surrogates c || is_above_surrogates c

-- PN_CHARS_U or a digit
abbrev pub is_name_start : ℕ → Bool
is_name_start c = is_base_char c || c == 95 || is_between 48 57 c

abbrev pub is_name_char : ℕ → Bool
is_name_char c = is_name_start c || c == 0xB7 || is_between 0x300 0x36F c || is_between 0x203F 0x2040 c

abbrev pub starts_as_name : List ℕ → Bool
starts_as_name [] = false
starts_as_name (c ∷ cs) = is_name_start c

-- VARNAME, of the characters of a text
abbrev pub is_name : List ℕ → Bool
is_name cs = starts_as_name cs && list_all is_name_char cs

abbrev pub named : List ℕ → Bool → Result (List ℕ) NameError
named text true = Ok text
named text false = Err BadName

-- the name that a text is, or that it is none
abbrev pub read_name : List ℕ → Result (List ℕ) NameError
read_name text = named text (is_name (chars text))

-- the text names a variable, in UTF-8
pub record IsName (text : List ℕ) : Type 0 where
  pub utf8 : IsUtf8 text
  pub name : read_name text ≡ Ok text
