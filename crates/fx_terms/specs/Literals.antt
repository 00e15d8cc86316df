-- Literals (RDF 1.1 Concepts 3.3), in this project's profile: a language tag is kept in lower case.
use Rattle.std.specs.Prelude.{◌≡◌, ◌<◌, ℕ, Bool, true, false, List, [], ◌∷◌, map, length, not, Result, Ok, Err, ◌&&◌, ◌||◌, ◌==◌, if◌then◌else◌}
use Rattle.std.specs.List.{list_all, slice_split}
use Rattle.std.specs.Str.{bytes_eq, IsUtf8}
use Rattle.std.specs.Char.{to_ascii_lowercase}
use Rattle.std.specs.declared.cmp.Ordering.{Ordering}
use Rattle.std.specs.Ordering.{on, then_cmp}
use Rattle.std.specs.Cmp.{IsTotalOrder}
use Rattle.std.proofs.lemmas.Cmp.{then_total, on_total}
use Rattle.fx_terms.specs.Datatypes.{xsd_string, lang_string}
use Rattle.fx_terms.specs.Texts.{text_cmp, texts_total}
use Rattle.fx_terms.specs.Iris.{is_letter, is_digit, IsIri}
use Rattle.fx_terms.specs.declared.literals.LiteralError.{LiteralError}
use Rattle.fx_terms.specs.declared.literals.LiteralError.TheVariants.{NeedsTag, BadTag}

-- the characters of each part, in UTF-8; a literal without a tag has the empty tag
pub record LiteralParts : Type 0 where
  pub form : List ℕ
  pub datatype : List ℕ
  pub tag : List ℕ

-- by form, datatype, tag
abbrev pub literal_cmp : LiteralParts → LiteralParts → Ordering
literal_cmp = then_cmp (on (λ l. l.form) text_cmp) (then_cmp (on (λ l. l.datatype) text_cmp) (on (λ l. l.tag) text_cmp))

pub literals_total : IsTotalOrder literal_cmp
literals_total = then_total (on_total (λ l. l.form) texts_total) (then_total (on_total (λ l. l.datatype) texts_total) (on_total (λ l. l.tag) texts_total))

abbrev pub is_dash : ℕ → Bool
is_dash b = b == 45

-- one letter or more
abbrev pub is_letters : List ℕ → Bool
is_letters part = not (length part == 0) && list_all is_letter part

abbrev pub is_letter_or_digit : ℕ → Bool
is_letter_or_digit b = is_letter b || is_digit b

-- one letter or digit or more
abbrev pub is_letters_or_digits : List ℕ → Bool
is_letters_or_digits part = not (length part == 0) && list_all is_letter_or_digit part

-- letters, and then parts of letters and digits
abbrev pub are_tag_parts : List (List ℕ) → Bool
are_tag_parts [] = false
are_tag_parts (part ∷ parts) = is_letters part && list_all is_letters_or_digits parts

-- LANGTAG of SPARQL 1.1 section 19.8, without its @: letters, and then groups of a dash with letters or digits
abbrev pub is_tag : List ℕ → Bool
is_tag tag = are_tag_parts (slice_split is_dash tag)

-- a language tag in lower case
pub record IsTag (text : List ℕ) : Type 0 where
  pub tag : is_tag text ≡ true
  pub lower : map to_ascii_lowercase text ≡ text

-- a form in UTF-8, a datatype, and a tag exactly where the datatype is rdf:langString
pub record IsLiteral (l : LiteralParts) : Type 0 where
  pub form : IsUtf8 l.form
  pub datatype : IsIri l.datatype
  pub fits : (length l.tag == 0) ≡ not (bytes_eq l.datatype lang_string)
  pub tag : 0 < length l.tag → IsTag l.tag

-- the literal that is a string
abbrev pub plain : List ℕ → LiteralParts
plain form = record { form = form; datatype = xsd_string; tag = [] }

-- the literal of a datatype, which may not be rdf:langString
abbrev pub typed : List ℕ → List ℕ → Result LiteralParts LiteralError
typed form datatype = if bytes_eq datatype lang_string then Err NeedsTag else Ok (record { form = form; datatype = datatype; tag = [] })

-- the literal with a tag, which is kept in lower case
abbrev pub tagged : List ℕ → List ℕ → Result LiteralParts LiteralError
tagged form tag = if is_tag tag then Ok (record { form = form; datatype = lang_string; tag = map to_ascii_lowercase tag }) else Err BadTag
