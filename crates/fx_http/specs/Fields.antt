-- The fields of a head, by their names (RFC 9110, 5.1: a name has no regard to ASCII case).
use Rattle.std.specs.Prelude.{ℕ, Bool, false, List, [], ◌∷◌, Option, Some, None, ◌&&◌, ◌==◌, nat_le, map, filter, length}
use Rattle.std.specs.List.{before_first}
use Rattle.std.specs.Str.{str_eq_ignore_ascii_case, all_ascii_digits}
use Rattle.httparse.specs.Grammar.{Field, field_value, trim_ows}

-- the fields' names and values, without the white space around a value
abbrev pub named : List Field → List (List ℕ × List ℕ)
named fields = map (λ f. (f.name, field_value f)) fields

abbrev pub is_named : List ℕ → List ℕ × List ℕ → Bool
is_named name field = str_eq_ignore_ascii_case field.0 name

-- the values of the fields of a name, in order
abbrev pub values : List ℕ → List (List ℕ × List ℕ) → List (List ℕ)
values name fields = map (λ (field : List ℕ × List ℕ). field.1) (filter (is_named name) fields)

-- the value, where there is one alone
abbrev pub only : List (List ℕ) → Option (List ℕ)
only [] = None
only (v ∷ []) = Some v
only (v ∷ w ∷ vs) = None

abbrev pub passes : (List ℕ → Bool) → Option (List ℕ) → Bool
passes test None = false
passes test (Some v) = test v

-- no field has the name
abbrev pub is_missing : List ℕ → List (List ℕ × List ℕ) → Bool
is_missing name fields = length (values name fields) == 0

-- two fields or more have the name
abbrev pub is_repeated : List ℕ → List (List ℕ × List ℕ) → Bool
is_repeated name fields = nat_le 2 (length (values name fields))

-- one field alone has the name, and its value passes
abbrev pub has_one : List ℕ → (List ℕ → Bool) → List (List ℕ × List ℕ) → Bool
has_one name test fields = passes test (only (values name fields))

abbrev pub is_semicolon : ℕ → Bool
is_semicolon b = b == 59

-- a media type without its parameters (RFC 9110, 8.3.1)
abbrev pub media_type : List ℕ → List ℕ
media_type value = trim_ows (before_first is_semicolon value)

-- 1 to 19 digits
abbrev pub is_number : List ℕ → Bool
is_number value = nat_le 1 (length value) && nat_le (length value) 19 && all_ascii_digits value
