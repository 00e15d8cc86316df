-- What bytes mean as an answer, and that what is written means what was meant.
use Rattle.std.specs.Prelude.{◌≡◌, ℕ, Bool, true, List, Ok, map, length, ◌&&◌, ◌==◌, not, bytes_eq, if◌then◌else◌, IsTrue, IsPermutation}
use Rattle.std.specs.Char.{to_ascii_lowercase}
use Rattle.std.specs.List.{list_all}
use Rattle.std.specs.Result.{is_ok}
use Rattle.std.specs.Str.{IsUtf8, chars}
use Rattle.fx_terms.specs.Iris.{read_iri}
use Rattle.fx_terms.specs.Datatypes.{lang_string}
use Rattle.fx_terms.specs.Literals.{LiteralParts, is_tag}
use Rattle.fx_terms.specs.Names.{is_name}
use Rattle.fx_terms.specs.declared.terms.Term.{Term}
use Rattle.fx_terms.specs.declared.terms.Term.TheVariants.{Iri, Literal}
use Rattle.fx_algebra.specs.Scopes.{is_among}
use Rattle.fx_algebra.specs.Solutions.{Bindings, SameRows, rises}
use Rattle.fx_algebra.specs.declared.answers.Answer.{Answer}
use Rattle.fx_algebra.specs.declared.answers.Answer.TheVariants.{Table, Truth}
use Rattle.fx_results.specs.Documents.{document}
use Rattle.fx_results.specs.Reading.{are_distinct, read_results}

-- ---- what bytes mean

-- the same truth value, or the same columns and the same rows, in any order
abbrev pub SameAnswer : Answer → Answer → Type 0
SameAnswer (Table columns rows) (Table others more) = IsPermutation columns others × SameRows rows more
SameAnswer (Table columns rows) (Truth truth) = ⊥
SameAnswer (Truth truth) (Table columns rows) = ⊥
SameAnswer (Truth truth) (Truth other) = truth ≡ other

-- the bytes are read, and tell the answer up to the order of its columns and of its rows
pub record Denotes (bytes : List ℕ) (answer : Answer) : Type 0 where
  pub told : Answer
  pub read : read_results bytes ≡ Ok told
  pub same : SameAnswer told answer

-- ---- which answers have a document that is read

abbrev pub is_iri : List ℕ → Bool
is_iri text = is_ok (read_iri text)

abbrev pub is_typed : LiteralParts → Bool
is_typed l = is_iri l.datatype && not (bytes_eq l.datatype lang_string)

-- with a tag in lower case
abbrev pub is_tagged : LiteralParts → Bool
is_tagged l = bytes_eq l.datatype lang_string && is_tag l.tag && bytes_eq (map to_ascii_lowercase l.tag) l.tag

abbrev pub is_term : Term → Bool
is_term (Iri text) = is_iri text
is_term (Literal l) = if length l.tag == 0 then is_typed l else is_tagged l

-- each name once, in order, a column, and with a term
abbrev pub is_row : List (List ℕ) → Bindings → Bool
is_row columns row = rises row && list_all (λ e. is_among columns e.0 && is_term e.1) row

abbrev pub is_table : List (List ℕ) → List Bindings → Bool
is_table columns rows = list_all (λ name. is_name (chars name)) columns && are_distinct columns && list_all (is_row columns) rows

-- a truth value, or rows of terms under distinct names of variables, which bind these names alone
abbrev pub is_answer : Answer → Bool
is_answer (Table columns rows) = is_table columns rows
is_answer (Truth truth) = true

-- ---- which answers the round trip is said of

-- a row binds columns alone
abbrev pub is_within : List (List ℕ) → Bindings → Bool
is_within columns row = list_all (λ e. is_among columns e.0) row

-- a truth value, or distinct columns, and rows that bind columns alone
abbrev pub binds_columns : Answer → Bool
binds_columns (Table columns rows) = are_distinct columns && list_all (is_within columns) rows
binds_columns (Truth truth) = true

-- ---- laws

-- the document of an answer reads as the answer
abbrev pub ReadsBack : Type 0
ReadsBack = (answer : Answer) → IsTrue (is_answer answer) → IsUtf8 (document answer) → read_results (document answer) ≡ Ok answer

-- the document of an answer means the answer
abbrev pub DenotesItself : Type 0
DenotesItself = (answer : Answer) → IsTrue (is_answer answer) → IsUtf8 (document answer) → Denotes (document answer) answer
