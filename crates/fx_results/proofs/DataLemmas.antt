-- The data of an answer reads as the answer.
use Rattle.std.proofs.Common.{◌≡◌, ◌∙◌, ℕ, suc, Bool, true, false, not, ◌&&◌, ◌==◌, List, [], ◌∷◌, map, length, Option, Some, None, Ok, bytes_eq, cond, refl, sym, ap, tests, arith}
use Rattle.std.specs.Result.{is_ok}
use Rattle.std.specs.Char.{to_ascii_lowercase}
use Rattle.std.specs.List.{list_all}
use Rattle.std.specs.Str.{chars}
use Rattle.std.proofs.lemmas.Slice.Eq.{bytes_eq-Decides}
use Rattle.serde_json.specs.Data.{string}
use Rattle.serde_json.specs.View.{items_of}
use Rattle.fx_terms.specs.Iris.{read_iri, iri_after, iri_with_scheme, has_scheme}
use Rattle.fx_terms.specs.Datatypes.{xsd_string, lang_string}
use Rattle.fx_terms.specs.Literals.{LiteralParts, is_tag, plain}
use Rattle.fx_terms.specs.Names.{is_name}
use Rattle.fx_terms.specs.declared.terms.Term.{Term}
use Rattle.fx_terms.specs.declared.terms.Term.TheVariants.{Iri, Literal}
use Rattle.fx_algebra.specs.Scopes.{is_among}
use Rattle.fx_algebra.specs.Solutions.{Bindings, rises}
use Rattle.fx_algebra.specs.declared.answers.Answer.{Answer}
use Rattle.fx_algebra.specs.declared.answers.Answer.TheVariants.{Table, Truth}
use Rattle.fx_results.specs.Documents.{answer_data, iri_data, term_data, untagged_data, plain_data, typed_data, tagged_data, row_members, row_data}
use Rattle.fx_results.specs.Meanings.{is_answer, is_iri, is_term, is_typed, is_tagged, is_row}
use Rattle.fx_results.specs.Reading.{answer_in, term_in, terms_in, row_in, rows_in, are_columns, names_in, columns_of, are_distinct}
use Rattle.fx_results.proofs.ReadingLemmas.{both}

same : (a b : List ℕ) → bytes_eq a b ≡ true → a ≡ b
same a b h = (bytes_eq-Decides a b).0 h

-- ---- IRIs

with_scheme : (text : List ℕ) (b : Bool) → is_ok (iri_with_scheme text b) ≡ true → iri_with_scheme text b ≡ Ok text
with_scheme text true h = refl
with_scheme text false h = cc

after : (text : List ℕ) (place : Option ℕ) → is_ok (iri_after text place) ≡ true → iri_after text place ≡ Ok text
after text (Some place) h = cc
after text None h = with_scheme text (has_scheme text) h

iri_is : (text : List ℕ) → is_iri text ≡ true → read_iri text ≡ Ok text
iri_is text h = after text _ h

-- ---- literals

no_tag : (tag : List ℕ) → (length tag == 0) ≡ true → tag ≡ []
no_tag [] h = refl
no_tag (x ∷ xs) h = let some : (suc (length xs) == 0) ≡ false = grind (arith, tests) in absurd (cc)

plain_reads : (form : List ℕ) → term_in (plain_data form) ≡ Ok (Literal (plain form))
plain_reads form = refl

typed_reads : (form datatype : List ℕ) → read_iri datatype ≡ Ok datatype → bytes_eq datatype lang_string ≡ false → term_in (typed_data form datatype) ≡ Ok (Literal (record { form = form; datatype = datatype; tag = [] }))
typed_reads form datatype iri apart = rw iri (rw apart refl)

tagged_reads : (form tag : List ℕ) → is_tag tag ≡ true → map to_ascii_lowercase tag ≡ tag → term_in (tagged_data form tag) ≡ Ok (Literal (record { form = form; datatype = lang_string; tag = tag }))
tagged_reads form tag is low = rw is (ap (λ t. Ok (Literal (record { form = form; datatype = lang_string; tag = t }))) low)

unless : (b : Bool) → not b ≡ true → b ≡ false
unless true h = cc
unless false h = refl

untagged_reads : (b : Bool) (l : LiteralParts) → bytes_eq l.datatype xsd_string ≡ b → l.tag ≡ [] → is_typed l ≡ true → term_in (cond b (plain_data l.form) (typed_data l.form l.datatype)) ≡ Ok (Literal l)
untagged_reads true l e none h = let d = same l.datatype xsd_string e in λ i. Ok (Literal (record { form = l.form; datatype = sym d i; tag = sym none i }))
untagged_reads false l e none h =
    let t = both (is_iri l.datatype) (not (bytes_eq l.datatype lang_string)) h in
    typed_reads l.form l.datatype (iri_is l.datatype t.0) (unless _ t.1) ∙ (λ i. Ok (Literal (record { form = l.form; datatype = l.datatype; tag = sym none i })))

literal_reads : (b : Bool) (l : LiteralParts) → (length l.tag == 0) ≡ b → cond b (is_typed l) (is_tagged l) ≡ true → term_in (cond b (untagged_data l.form l.datatype) (tagged_data l.form l.tag)) ≡ Ok (Literal l)
literal_reads true l e h = untagged_reads (bytes_eq l.datatype xsd_string) l refl (no_tag l.tag e) h
literal_reads false l e h =
    let t = both (bytes_eq l.datatype lang_string && is_tag l.tag) (bytes_eq (map to_ascii_lowercase l.tag) l.tag) h in
    let u = both (bytes_eq l.datatype lang_string) (is_tag l.tag) t.0 in
    let d = same l.datatype lang_string u.0 in
    tagged_reads l.form l.tag u.1 (same _ _ t.1) ∙ (λ i. Ok (Literal (record { form = l.form; datatype = sym d i; tag = l.tag })))

-- ---- terms

iri_reads : (text : List ℕ) → read_iri text ≡ Ok text → term_in (iri_data text) ≡ Ok (Iri text)
iri_reads text iri = rw iri refl

term_reads : (t : Term) → is_term t ≡ true → term_in (term_data t) ≡ Ok t
term_reads (Iri text) h = iri_reads text (iri_is text h)
term_reads (Literal l) h = literal_reads (length l.tag == 0) l refl h

-- ---- rows

terms_read : (columns : List (List ℕ)) (row : Bindings) → list_all (λ e. is_among columns e.0 && is_term e.1) row ≡ true → terms_in (row_members row) ≡ Ok row
terms_read columns [] h = refl
terms_read columns (e ∷ es) h =
    let t = both (is_among columns e.0 && is_term e.1) _ h in
    rw (term_reads e.1 (both (is_among columns e.0) (is_term e.1) t.0).1) (rw (terms_read columns es t.1) refl)

columns_hold : (columns : List (List ℕ)) (row : Bindings) → list_all (λ e. is_among columns e.0 && is_term e.1) row ≡ true → are_columns columns (row_members row) ≡ true
columns_hold columns [] h = refl
columns_hold columns (e ∷ es) h =
    let t = both (is_among columns e.0 && is_term e.1) _ h in
    rw ((both (is_among columns e.0) (is_term e.1) t.0).0, columns_hold columns es t.1) refl

row_reads : (columns : List (List ℕ)) (row : Bindings) → is_row columns row ≡ true → row_in columns (row_data row) ≡ Ok row
row_reads columns row h = let t = (both (rises row) _ h).1 in rw (columns_hold columns row t) (terms_read columns row t)

rows_read : (columns : List (List ℕ)) (rows : List Bindings) → list_all (is_row columns) rows ≡ true → rows_in columns (items_of (map row_data rows)) ≡ Ok rows
rows_read columns [] h = refl
rows_read columns (r ∷ rs) h = let t = both (is_row columns r) _ h in rw (row_reads columns r t.0) (rw (rows_read columns rs t.1) refl)

-- ---- columns

names_read : (names : List (List ℕ)) → list_all (λ name. is_name (chars name)) names ≡ true → names_in (items_of (map string names)) ≡ Some names
names_read [] h = refl
names_read (n ∷ ns) h = let t = both (is_name (chars n)) _ h in rw t.0 (rw (names_read ns t.1) refl)

columns_read : (columns : List (List ℕ)) → list_all (λ name. is_name (chars name)) columns ≡ true → are_distinct columns ≡ true → columns_of (items_of (map string columns)) ≡ Some columns
columns_read columns h distinct = rw (names_read columns h) (rw distinct refl)

-- ---- answers

pub answer_reads : (answer : Answer) → is_answer answer ≡ true → answer_in (answer_data answer) ≡ Ok answer
answer_reads (Truth truth) h = refl
answer_reads (Table columns rows) h =
    let t = both (list_all (λ name. is_name (chars name)) columns && are_distinct columns) (list_all (is_row columns) rows) h in
    let u = both (list_all (λ name. is_name (chars name)) columns) (are_distinct columns) t.0 in
    rw (columns_read columns u.0 u.1) (rw (rows_read columns rows t.1) refl)
