-- An answer whose names and terms are what their readers accept has a document that is read.
use Rattle.std.proofs.Common.{◌≡◌, ◌∙◌, ap, sym, refl, ℕ, ◌<◌, Bool, true, false, cond, ◌&&◌, List, [], ◌∷◌, map, length, Ok, arith, tests}
use Rattle.std.specs.Prelude.{not, ◌==◌, bytes_eq}
use Rattle.std.specs.Char.{to_ascii_lowercase}
use Rattle.std.specs.List.{AllByRecursion, list_all}
use Rattle.std.specs.Result.{is_ok}
use Rattle.std.specs.Str.{chars}
use Rattle.std.proofs.lemmas.List.Elements.{recursion_from_All}
use Rattle.std.proofs.lemmas.Slice.Eq.{bytes_eq-Decides}
use Rattle.fx_terms.specs.Iris.{IsIri}
use Rattle.fx_terms.specs.Datatypes.{lang_string}
use Rattle.fx_terms.specs.Literals.{LiteralParts, IsLiteral, is_tag}
use Rattle.fx_terms.specs.Names.{IsName, is_name, named}
use Rattle.fx_terms.specs.Terms.{IsTerm}
use Rattle.fx_terms.specs.declared.terms.Term.{Term}
use Rattle.fx_terms.specs.declared.terms.Term.TheVariants.{Iri, Literal}
use Rattle.fx_algebra.specs.Scopes.{is_among}
use Rattle.fx_algebra.specs.Solutions.{Bindings, rises}
use Rattle.fx_algebra.specs.declared.answers.Answer.{Answer}
use Rattle.fx_algebra.specs.declared.answers.Answer.TheVariants.{Table, Truth}
use Rattle.fx_results.specs.KnownAnswers.{IsKnown, IsKnownRow}
use Rattle.fx_results.specs.Meanings.{is_iri, is_typed, is_tagged, is_term, is_row, is_answer, is_within, binds_columns}
use Rattle.fx_results.specs.Reading.{are_distinct}
use Rattle.fx_results.proofs.ReadingLemmas.{both}

and_true : (a b : Bool) → a ≡ true → b ≡ true → (a && b) ≡ true
and_true true b g h = h
and_true false b g h = cc

names_are : (names : List (List ℕ)) → AllByRecursion IsName names → list_all (λ name. is_name (chars name)) names ≡ true
names_are [] h = refl
names_are (n ∷ ns) h = and_true (is_name (chars n)) _ (pick (is_name (chars n)) h.0.name) (names_are ns h.1)
  where
    pick : (b : Bool) → named n b ≡ Ok n → b ≡ true
    pick true e = refl
    pick false e = cc

-- ---- terms

iri_is : (a : List ℕ) → IsIri a → is_iri a ≡ true
iri_is a h = ap is_ok h.iri

literal_is : (l : LiteralParts) → IsLiteral l → (b : Bool) → (length l.tag == 0) ≡ b → cond b (is_typed l) (is_tagged l) ≡ true
literal_is l h true e = and_true (is_iri l.datatype) (not (bytes_eq l.datatype lang_string)) (iri_is l.datatype h.datatype) (sym h.fits ∙ e)
literal_is l h false e =
    let some : 0 < length l.tag = above (length l.tag) e in
    let t = h.tag some in
    and_true (bytes_eq l.datatype lang_string && is_tag l.tag) (bytes_eq (map to_ascii_lowercase l.tag) l.tag)
    (and_true (bytes_eq l.datatype lang_string) (is_tag l.tag) (turned (bytes_eq l.datatype lang_string) (sym h.fits ∙ e)) t.tag)
    (ap (λ (v : List ℕ). bytes_eq v l.tag) t.lower ∙ (bytes_eq-Decides l.tag l.tag).1 refl)
  where
    above : (n : ℕ) → (n == 0) ≡ false → 0 < n
    above n f = grind (arith, tests)

    turned : (b : Bool) → not b ≡ false → b ≡ true
    turned true f = refl
    turned false f = cc

term_is : (t : Term) → IsTerm t → is_term t ≡ true
term_is (Iri a) h = iri_is a h
term_is (Literal l) h = literal_is l h (length l.tag == 0) refl

-- ---- rows

pairs_are : (columns : List (List ℕ)) (es : Bindings) → AllByRecursion (λ e. IsTerm e.1) es → is_within columns es ≡ true → list_all (λ e. is_among columns e.0 && is_term e.1) es ≡ true
pairs_are columns [] h k = refl
pairs_are columns (e ∷ es) h k =
    let t = both (is_among columns e.0) (is_within columns es) k in
    and_true (is_among columns e.0 && is_term e.1) _ (and_true (is_among columns e.0) (is_term e.1) t.0 (term_is e.1 h.0)) (pairs_are columns es h.1 t.1)

row_is : (columns : List (List ℕ)) (row : Bindings) → IsKnownRow row → is_within columns row ≡ true → is_row columns row ≡ true
row_is columns row h k = and_true (rises row) _ h.rises (pairs_are columns row (recursion_from_All (λ e. IsTerm e.1) row h.terms) k)

rows_are : (columns : List (List ℕ)) (rows : List Bindings) → AllByRecursion IsKnownRow rows → list_all (is_within columns) rows ≡ true → list_all (is_row columns) rows ≡ true
rows_are columns [] h k = refl
rows_are columns (r ∷ rs) h k = let t = both (is_within columns r) _ k in and_true (is_row columns r) _ (row_is columns r h.0 t.0) (rows_are columns rs h.1 t.1)

-- ---- the answer

pub known_is : (answer : Answer) → IsKnown answer → binds_columns answer ≡ true → is_answer answer ≡ true
known_is (Table columns rows) h k =
    let t = both (are_distinct columns) (list_all (is_within columns) rows) k in
    and_true (list_all (λ name. is_name (chars name)) columns && are_distinct columns) _
    (and_true _ (are_distinct columns) (names_are columns (recursion_from_All IsName columns h.0)) t.0)
    (rows_are columns rows (recursion_from_All IsKnownRow rows h.1) t.1)
known_is (Truth truth) h k = refl
