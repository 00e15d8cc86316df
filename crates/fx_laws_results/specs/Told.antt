-- Which answer a results document tells, by its members (SPARQL 1.1 Query Results JSON Format, sections 3.1 to 3.3).
use Rattle.std.specs.Prelude.{◌≡◌, ◌⊎◌, ◌↔◌, ℕ, Bool, true, List, [], ◌∷◌, Contains, Some, None, Ok, codes}
use Rattle.std.specs.Str.{is_utf8}
use Rattle.serde_json.specs.Data.{Data, Items, Members, array, boolean, item, member, no_items, no_members, object, string}
use Rattle.serde_json.specs.Find.{get}
use Rattle.serde_json.specs.Read.{read}
use Rattle.fx_terms.specs.Iris.{read_iri}
use Rattle.fx_terms.specs.Datatypes.{lang_string}
use Rattle.fx_terms.specs.Literals.{LiteralParts, plain, tagged, typed}
use Rattle.fx_terms.specs.Names.{read_name}
use Rattle.fx_terms.specs.declared.terms.Term.{Term}
use Rattle.fx_terms.specs.declared.terms.Term.TheVariants.{Iri, Literal}
use Rattle.fx_algebra.specs.Solutions.{Bindings}
use Rattle.fx_algebra.specs.declared.answers.Answer.{Answer}
use Rattle.fx_algebra.specs.declared.answers.Answer.TheVariants.{Table, Truth}
use Rattle.fx_results.specs.Reading.{read_results}

-- ---- members

-- a value is an object that has a member of this name with that value, whatever else it has
abbrev pub Has : Data → List ℕ → Data → Type 0
Has d name v = get name d ≡ Some v

-- it has no member of this name
abbrev pub HasNo : Data → List ℕ → Type 0
HasNo d name = get name d ≡ None

-- ---- terms

abbrev pub IsLiteralType : List ℕ → Type 0
IsLiteralType kind = (kind ≡ codes "literal") ⊎ (kind ≡ codes "typed-literal")

pub data IsTermOf (d : Data) (t : Term) : Type 0 where
  -- {"type": "uri", "value": IRI}
  uri : (text iri : List ℕ) → Has d (codes "type") (string (codes "uri")) → Has d (codes "value") (string text) → read_iri text ≡ Ok iri → t ≡ Iri iri → IsTermOf d t
  -- {"type": "literal", "value": FORM}
  plain_literal : (form : List ℕ) → Has d (codes "type") (string (codes "literal")) → Has d (codes "value") (string form) → HasNo d (codes "datatype") → HasNo d (codes "xml:lang") → t ≡ Literal (plain form) → IsTermOf d t
  -- {"type": "literal", "value": FORM, "xml:lang": TAG}
  tagged_literal : (form tag : List ℕ) (l : LiteralParts) → Has d (codes "type") (string (codes "literal")) → Has d (codes "value") (string form) → HasNo d (codes "datatype") → Has d (codes "xml:lang") (string tag) →
      tagged form tag ≡ Ok l → t ≡ Literal l → IsTermOf d t
  -- {"type": "literal" or "typed-literal", "value": FORM, "datatype": IRI}
  typed_literal : (kind form text iri : List ℕ) (l : LiteralParts) → IsLiteralType kind → Has d (codes "type") (string kind) → Has d (codes "value") (string form) → Has d (codes "datatype") (string text) → HasNo d (codes "xml:lang") →
      read_iri text ≡ Ok iri → typed form iri ≡ Ok l → t ≡ Literal l → IsTermOf d t
  -- the same with rdf:langString and a tag
  tagged_and_typed : (kind form tag : List ℕ) (l : LiteralParts) → IsLiteralType kind → Has d (codes "type") (string kind) → Has d (codes "value") (string form) → Has d (codes "datatype") (string lang_string) →
      Has d (codes "xml:lang") (string tag) → tagged form tag ≡ Ok l → t ≡ Literal l → IsTermOf d t

-- ---- rows and columns

-- members that are names of columns, each with its term
abbrev pub AreTerms : List (List ℕ) → Members → Bindings → Type 0
AreTerms columns no_members [] = Unit {0}
AreTerms columns no_members (e ∷ es) = ⊥
AreTerms columns (member name d rest) [] = ⊥
AreTerms columns (member name d rest) (e ∷ es) = (name ≡ e.0) × Contains columns name × IsTermOf d e.1 × AreTerms columns rest es

-- items that are objects of such members
abbrev pub AreRows : List (List ℕ) → Items → List Bindings → Type 0
AreRows columns no_items [] = Unit {0}
AreRows columns no_items (row ∷ rows) = ⊥
AreRows columns (item d rest) [] = ⊥
AreRows columns (item d rest) (row ∷ rows) = (members : Members) × (d ≡ object members) × AreTerms columns members row × AreRows columns rest rows

-- items that are names of variables, none of them twice
abbrev pub AreColumns : Items → List (List ℕ) → Type 0
AreColumns no_items [] = Unit {0}
AreColumns no_items (name ∷ names) = ⊥
AreColumns (item d rest) [] = ⊥
AreColumns (item d rest) (name ∷ names) = (text : List ℕ) × (d ≡ string text) × (read_name text ≡ Ok name) × (Contains names name → ⊥) × AreColumns rest names

-- ---- answers

-- {"head": {..}, "boolean": TRUTH}, without "results"
pub record TellsTruth (d : Data) (truth : Bool) : Type 0 where
  pub head : Members
  pub has_head : Has d (codes "head") (object head)
  pub has_truth : Has d (codes "boolean") (boolean truth)
  pub no_results : HasNo d (codes "results")

-- {"head": {"vars": [COLUMN, ..], ..}, "results": {"bindings": [ROW, ..], ..}}, without "boolean"
pub record TellsTable (d : Data) (columns : List (List ℕ)) (rows : List Bindings) : Type 0 where
  pub head : Members
  pub vars : Items
  pub results : Members
  pub bindings : Items
  pub has_head : Has d (codes "head") (object head)
  pub has_vars : Has (object head) (codes "vars") (array vars)
  pub are_columns : AreColumns vars columns
  pub no_truth : HasNo d (codes "boolean")
  pub has_results : Has d (codes "results") (object results)
  pub has_bindings : Has (object results) (codes "bindings") (array bindings)
  pub are_rows : AreRows columns bindings rows

abbrev pub Tells : Data → Answer → Type 0
Tells d (Truth truth) = TellsTruth d truth
Tells d (Table columns rows) = TellsTable d columns rows

-- bytes that are a JSON value in UTF-8 which tells an answer
pub record IsDocumentOf (bytes : List ℕ) (answer : Answer) : Type 0 where
  pub value : Data
  pub utf8 : is_utf8 bytes ≡ true
  pub json : read bytes ≡ Some value
  pub tells : Tells value answer

abbrev pub DocumentsTellByTheirMembers : Type 0
DocumentsTellByTheirMembers = (bytes : List ℕ) (answer : Answer) → (read_results bytes ≡ Ok answer) ↔ IsDocumentOf bytes answer
