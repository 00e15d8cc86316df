-- What a results document says (SPARQL 1.1 Query Results JSON Format, sections 3.1 to 3.3), in this project's profile: the
-- answer, or the first fault. Members that no line here names are passed over.
use Rattle.std.specs.Prelude.{ℕ, Bool, true, false, List, [], ◌∷◌, Option, Some, None, Result, Ok, Err, ◌&&◌, not, is_some, codes, bytes_eq, if◌then◌else◌, option_map, option_and_then}
use Rattle.std.specs.Option.{ok_or}
use Rattle.std.specs.Result.{result_ok}
use Rattle.std.specs.Str.{is_utf8}
use Rattle.serde_json.specs.Data.{Data, Items, no_items, item, Members, no_members, member}
use Rattle.serde_json.specs.Find.{get, as_bool, as_str, as_array, as_object}
use Rattle.serde_json.specs.Read.{read}
use Rattle.fx_terms.specs.Iris.{read_iri}
use Rattle.fx_terms.specs.Datatypes.{lang_string}
use Rattle.fx_terms.specs.Literals.{LiteralParts, plain, typed, tagged}
use Rattle.fx_terms.specs.Names.{read_name}
use Rattle.fx_terms.specs.declared.terms.Term.{Term}
use Rattle.fx_terms.specs.declared.terms.Term.TheVariants.{Iri, Literal}
use Rattle.fx_algebra.specs.Scopes.{is_among}
use Rattle.fx_algebra.specs.Solutions.{Bindings}
use Rattle.fx_algebra.specs.declared.answers.Answer.{Answer}
use Rattle.fx_algebra.specs.declared.answers.Answer.TheVariants.{Table, Truth}
use Rattle.fx_results.specs.declared.faults.ResultsError.{ResultsError}
use Rattle.fx_results.specs.declared.faults.ResultsError.TheVariants.{BadJson, Shape, Blank, BadTerm}
use Rattle.fx_results.specs.declared.faults.ShapeFault.TheVariants as fault

-- what comes of a value, where there is no fault yet
abbrev pub and_then : {X Y : Type 0} → Result X ResultsError → (X → Result Y ResultsError) → Result Y ResultsError
and_then (Ok x) f = f x
and_then (Err e) f = Err e

-- ---- terms (section 3.2.2)

-- the text that is the value of a member
abbrev pub text_at : List ℕ → Data → Option (List ℕ)
text_at name d = option_and_then as_str (get name d)

-- the IRI that a text is
abbrev pub iri_of : Data → Option (List ℕ)
iri_of d = option_and_then (λ text. result_ok (read_iri text)) (as_str d)

abbrev pub typed_of : List ℕ → Data → Option LiteralParts
typed_of form datatype = option_and_then (λ iri. result_ok (typed form iri)) (iri_of datatype)

abbrev pub tagged_of : List ℕ → Data → Option LiteralParts
tagged_of form tag = option_and_then (λ text. result_ok (tagged form text)) (as_str tag)

abbrev pub is_text : List ℕ → Option (List ℕ) → Bool
is_text text None = false
is_text text (Some other) = bytes_eq other text

-- by the datatype and the tag, where they are there: a tag stands alone or with the datatype of tagged literals
abbrev pub literal_of : List ℕ → Option Data → Option Data → Option LiteralParts
literal_of form None None = Some (plain form)
literal_of form None (Some tag) = tagged_of form tag
literal_of form (Some datatype) None = typed_of form datatype
literal_of form (Some datatype) (Some tag) = if is_text lang_string (as_str datatype) then tagged_of form tag else None

abbrev pub literal_in : Data → Option LiteralParts
literal_in d = option_and_then (λ form. literal_of form (get (codes "datatype") d) (get (codes "xml:lang") d)) (text_at (codes "value") d)

-- a literal that has a datatype
abbrev pub typed_in : Data → Option LiteralParts
typed_in d = if is_some (get (codes "datatype") d) then literal_in d else None

abbrev pub iri_in : Data → Option (List ℕ)
iri_in d = option_and_then iri_of (get (codes "value") d)

-- the IRI or the literal of a type
abbrev pub known_term : List ℕ → Data → Option Term
known_term kind d =
    if bytes_eq kind (codes "uri") then option_map Iri (iri_in d)
    else if bytes_eq kind (codes "literal") then option_map Literal (literal_in d)
    else if bytes_eq kind (codes "typed-literal") then option_map Literal (typed_in d)
    else None

-- a blank node is told as such
abbrev pub term_of_type : List ℕ → Data → Result Term ResultsError
term_of_type kind d = if bytes_eq kind (codes "bnode") then Err Blank else ok_or (known_term kind d) BadTerm

-- a term is of the type that `type` names
abbrev pub term_in : Data → Result Term ResultsError
term_in d = and_then (ok_or (text_at (codes "type") d) BadTerm) (λ kind. term_of_type kind d)

-- ---- rows (section 3.2.1)

-- each name with its term, by name
abbrev pub terms_in : Members → Result Bindings ResultsError
terms_in no_members = Ok []
terms_in (member name d rest) = and_then (term_in d) (λ term. and_then (terms_in rest) (λ more. Ok ((name, term) ∷ more)))

-- whether each name is a column
abbrev pub are_columns : List (List ℕ) → Members → Bool
are_columns columns no_members = true
are_columns columns (member name d rest) = is_among columns name && are_columns columns rest

-- the names of a row are looked at before its terms
abbrev pub row_of : List (List ℕ) → Members → Result Bindings ResultsError
row_of columns members = if are_columns columns members then terms_in members else Err (Shape fault.Row)

abbrev pub row_in : List (List ℕ) → Data → Result Bindings ResultsError
row_in columns d = and_then (ok_or (as_object d) (Shape fault.Row)) (row_of columns)

-- the rows, one by one
abbrev pub rows_in : List (List ℕ) → Items → Result (List Bindings) ResultsError
rows_in columns no_items = Ok []
rows_in columns (item d rest) = and_then (row_in columns d) (λ row. and_then (rows_in columns rest) (λ more. Ok (row ∷ more)))

-- ---- columns (section 3.1.1)

-- the array that is the value of a member
abbrev pub items_at : List ℕ → Data → Option Items
items_at name d = option_and_then as_array (get name d)

abbrev pub name_in : Data → Option (List ℕ)
name_in d = option_and_then (λ text. result_ok (read_name text)) (as_str d)

abbrev pub in_front : {X : Type 0} → Option X → Option (List X) → Option (List X)
in_front None rest = None
in_front (Some x) rest = option_map (λ xs. x ∷ xs) rest

-- the names that all items are
abbrev pub names_in : Items → Option (List (List ℕ))
names_in no_items = Some []
names_in (item d rest) = in_front (name_in d) (names_in rest)

-- whether no name stands twice
abbrev pub are_distinct : List (List ℕ) → Bool
are_distinct [] = true
are_distinct (name ∷ names) = not (is_among names name) && are_distinct names

abbrev pub if_distinct : List (List ℕ) → Option (List (List ℕ))
if_distinct names = if are_distinct names then Some names else None

-- the distinct names of an array
abbrev pub columns_of : Items → Option (List (List ℕ))
columns_of items = option_and_then if_distinct (names_in items)

-- the array that `vars` of `head` is
abbrev pub vars_in : Data → Option Items
vars_in d = option_and_then (items_at (codes "vars")) (get (codes "head") d)

abbrev pub columns_in : Data → Result (List (List ℕ)) ResultsError
columns_in d = ok_or (option_and_then columns_of (vars_in d)) (Shape fault.Columns)

-- ---- answers (sections 3.1 to 3.3)

abbrev pub is_object : Data → Bool
is_object d = is_some (as_object d)

abbrev pub has : List ℕ → Data → Bool
has name d = is_some (get name d)

-- the array that `bindings` of `results` is
abbrev pub bindings_of : Data → Result Items ResultsError
bindings_of results =
    if is_object results then ok_or (items_at (codes "bindings") results) (Shape fault.Bindings)
    else Err (Shape fault.Results)

abbrev pub bindings_in : Data → Result Items ResultsError
bindings_in d = and_then (ok_or (get (codes "results") d) (Shape fault.Results)) bindings_of

-- the columns, then the array of the rows, then the rows
abbrev pub table_in : Data → Result Answer ResultsError
table_in d = and_then (columns_in d) (λ columns. and_then (bindings_in d) (λ bindings. and_then (rows_in columns bindings) (λ rows. Ok (Table columns rows))))

abbrev pub truth_of : Data → Result Answer ResultsError
truth_of d = ok_or (option_map Truth (as_bool d)) (Shape fault.Truth)

-- a truth value where `boolean` is there, else a table
abbrev pub contents_of : Option Data → Data → Result Answer ResultsError
contents_of (Some truth) d = truth_of truth
contents_of None d = table_in d

-- an object that has not both `boolean` and `results`
abbrev pub is_root : Data → Bool
is_root d = is_object d && not (has (codes "boolean") d && has (codes "results") d)

abbrev pub is_head : Option Data → Bool
is_head None = false
is_head (Some d) = is_object d

-- the root, then the head, then what `boolean` or else the table says
abbrev pub answer_in : Data → Result Answer ResultsError
answer_in d =
    if not (is_root d) then Err (Shape fault.Root)
    else if not (is_head (get (codes "head") d)) then Err (Shape fault.Head)
    else contents_of (get (codes "boolean") d) d

-- ---- bytes

-- the data that a JSON text in UTF-8 is
abbrev pub data_in : List ℕ → Result Data ResultsError
data_in bytes = ok_or (if is_utf8 bytes then read bytes else None) BadJson

-- the answer that bytes tell, or the first fault
abbrev pub read_results : List ℕ → Result Answer ResultsError
read_results bytes = and_then (data_in bytes) answer_in
