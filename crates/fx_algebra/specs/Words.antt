-- The tests and functions on texts (SPARQL 1.1 sections 17.4.2 and 17.4.3).
use Rattle.std.specs.Prelude.{ℕ, ◌==◌, ◌&&◌, ◌||◌, not, Bool, true, false, List, [], ◌∷◌, take, drop, length, codes, Option, Some, None, if◌then◌else◌}
use Rattle.std.specs.List.{starts_with, ends_with}
use Rattle.std.specs.Str.{bytes_eq, str_eq_ignore_ascii_case}
use Rattle.fx_terms.specs.Literals.{LiteralParts}
use Rattle.fx_terms.specs.declared.terms.Term.{Term}
use Rattle.fx_terms.specs.declared.terms.Term.TheVariants as term
use Rattle.fx_algebra.specs.declared.worths.Kind.{Kind}
use Rattle.fx_algebra.specs.declared.worths.Kind.TheVariants as kind
use Rattle.fx_algebra.specs.Worths.{kind_of}

-- a text begins with a part
unfoldable pub begins : List ℕ → List ℕ → Bool
begins text part = starts_with ◌==◌ text part

-- a text ends with a part
unfoldable pub ends : List ℕ → List ℕ → Bool
ends text part = ends_with ◌==◌ text part

-- a part stands somewhere in a text
unfoldable pub has_part : List ℕ → List ℕ → Bool
has_part [] part = begins [] part
has_part (c ∷ cs) part = begins (c ∷ cs) part || has_part cs part

-- ---- strings and literals with a tag

abbrev pub is_string_kind : Kind → Bool
is_string_kind kind.Text = true
is_string_kind kind.Tagged = false
is_string_kind (kind.Integer t) = false
is_string_kind kind.Boolean = false
is_string_kind kind.Other = false

abbrev pub is_worded_kind : Kind → Bool
is_worded_kind kind.Text = true
is_worded_kind kind.Tagged = true
is_worded_kind (kind.Integer t) = false
is_worded_kind kind.Boolean = false
is_worded_kind kind.Other = false

-- it is a string
abbrev pub is_string : LiteralParts → Bool
is_string a = is_string_kind (kind_of a.datatype)

-- it is a string, or has a tag
abbrev pub is_worded : LiteralParts → Bool
is_worded a = is_worded_kind (kind_of a.datatype)

-- both are strings or tagged, and the second is a string or both have the same tag
abbrev pub fit : LiteralParts → LiteralParts → Bool
fit a b = is_worded a && is_worded b && (is_string b || bytes_eq a.tag b.tag)

-- the forms of two terms that fit
unfoldable pub forms : Term → Term → Option (List ℕ × List ℕ)
forms (term.Literal a) (term.Literal b) = if fit a b then Some (a.form, b.form) else None
forms (term.Literal a) (term.Iri b) = None
forms (term.Iri a) b = None

-- the form of a string
unfoldable pub string_form : Term → Option (List ℕ)
string_form (term.Literal a) = if is_string a then Some a.form else None
string_form (term.Iri a) = None

-- the form of a string or of a literal with a tag
unfoldable pub worded_form : Term → Option (List ℕ)
worded_form (term.Literal a) = if is_worded a then Some a.form else None
worded_form (term.Iri a) = None

-- ---- ranges of languages (RFC 4647 section 3.3.1)

abbrev pub ends_or_goes_on : List ℕ → Bool
ends_or_goes_on [] = true
ends_or_goes_on (c ∷ cs) = c == 45

-- a tag is the range, or begins with it and a dash, whatever the case
abbrev pub is_within : List ℕ → List ℕ → Bool
is_within tag range = str_eq_ignore_ascii_case (take (length range) tag) range && ends_or_goes_on (drop (length range) tag)

-- whether a range matches a tag; * matches every tag
unfoldable pub in_language : List ℕ → List ℕ → Bool
in_language tag range = if bytes_eq range (codes "*") then not (length tag == 0) else is_within tag range
