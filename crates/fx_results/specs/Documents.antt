-- The document of an answer (SPARQL 1.1 Query Results JSON Format, sections 3.1, 3.2 and 3.2.2), in this project's layout:
-- compact text, with the members of each object in the order of their names' code points, and nothing behind it.
use Rattle.std.specs.Prelude.{ℕ, Bool, List, [], ◌∷◌, ◌==◌, length, map, codes, bytes_eq, if◌then◌else◌}
use Rattle.serde_json.specs.Data.{Data, Members, boolean, string, array, object, member, no_members}
use Rattle.serde_json.specs.View.{items_of}
use Rattle.serde_json.specs.Written.{compact_text}
use Rattle.fx_terms.specs.Datatypes.{xsd_string}
use Rattle.fx_terms.specs.Literals.{LiteralParts}
use Rattle.fx_terms.specs.declared.terms.Term.{Term}
use Rattle.fx_terms.specs.declared.terms.Term.TheVariants.{Iri, Literal}
use Rattle.fx_algebra.specs.Solutions.{Bindings}
use Rattle.fx_algebra.specs.declared.answers.Answer.{Answer}
use Rattle.fx_algebra.specs.declared.answers.Answer.TheVariants.{Table, Truth}

-- ---- data from lists

abbrev pub array_of : List Data → Data
array_of items = array (items_of items)

-- each name with its value, in the order of the list
abbrev pub members_from : List (List ℕ × Data) → Members
members_from [] = no_members
members_from (m ∷ ms) = member m.0 m.1 (members_from ms)

abbrev pub object_of : List (List ℕ × Data) → Data
object_of members = object (members_from members)

-- ---- terms (section 3.2.2)

abbrev pub iri_data : List ℕ → Data
iri_data text = object_of ((codes "type", string (codes "uri")) ∷ (codes "value", string text) ∷ [])

abbrev pub plain_data : List ℕ → Data
plain_data form = object_of ((codes "type", string (codes "literal")) ∷ (codes "value", string form) ∷ [])

abbrev pub tagged_data : List ℕ → List ℕ → Data
tagged_data form tag = object_of ((codes "type", string (codes "literal")) ∷ (codes "value", string form) ∷ (codes "xml:lang", string tag) ∷ [])

abbrev pub typed_data : List ℕ → List ℕ → Data
typed_data form datatype = object_of ((codes "datatype", string datatype) ∷ (codes "type", string (codes "literal")) ∷ (codes "value", string form) ∷ [])

-- a literal without a tag is plain where its datatype is xsd:string
abbrev pub untagged_data : List ℕ → List ℕ → Data
untagged_data form datatype = if bytes_eq datatype xsd_string then plain_data form else typed_data form datatype

-- a literal without a tag has the empty tag
abbrev pub literal_data : LiteralParts → Data
literal_data l = if length l.tag == 0 then untagged_data l.form l.datatype else tagged_data l.form l.tag

abbrev pub term_data : Term → Data
term_data (Iri text) = iri_data text
term_data (Literal l) = literal_data l

-- ---- rows (section 3.2): each variable that is bound, by rising name, with its term

abbrev pub row_members : Bindings → Members
row_members row = members_from (map (λ e. (e.0, term_data e.1)) row)

abbrev pub row_data : Bindings → Data
row_data row = object (row_members row)

-- ---- answers (sections 3.1 and 3.2)

abbrev pub head_data : List (List ℕ) → Data
head_data columns = object_of ((codes "vars", array_of (map string columns)) ∷ [])

abbrev pub results_data : List Bindings → Data
results_data rows = object_of ((codes "bindings", array_of (map row_data rows)) ∷ [])

abbrev pub table_data : List (List ℕ) → List Bindings → Data
table_data columns rows = object_of ((codes "head", head_data columns) ∷ (codes "results", results_data rows) ∷ [])

-- a truth value stands beside an empty head
abbrev pub truth_data : Bool → Data
truth_data truth = object_of ((codes "boolean", boolean truth) ∷ (codes "head", object_of []) ∷ [])

abbrev pub answer_data : Answer → Data
answer_data (Table columns rows) = table_data columns rows
answer_data (Truth truth) = truth_data truth

-- the document of an answer
abbrev pub document : Answer → List ℕ
document answer = compact_text (answer_data answer)
