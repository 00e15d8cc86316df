-- Rows and columns by their items.
use Rattle.std.proofs.Common.{◌≡◌, ◌∙◌, ap, subst, refl, ℕ, Bool, true, false, not, ◌&&◌, if◌then◌else◌, List, [], ◌∷◌, Option, Some, None, Result, Ok, Err}
use Rattle.std.specs.Option.{ok_or}
use Rattle.std.specs.Result.{result_ok}
use Rattle.serde_json.specs.Data.{Data, Items, Members, item, member, no_items, no_members}
use Rattle.serde_json.specs.Find.{as_object, as_str}
use Rattle.fx_terms.proofs.SetLemmas.{among_from, contains_from}
use Rattle.fx_terms.specs.Names.{read_name}
use Rattle.fx_terms.specs.declared.terms.Term.{Term}
use Rattle.fx_algebra.specs.Scopes.{is_among}
use Rattle.fx_algebra.specs.Solutions.{Bindings}
use Rattle.fx_results.specs.Reading.{and_then, are_columns, are_distinct, in_front, name_in, names_in, row_in, row_of, rows_in, term_in, terms_in}
use Rattle.fx_results.specs.declared.faults.ResultsError.{ResultsError}
use Rattle.fx_results.specs.declared.faults.ResultsError.TheVariants.{Shape}
use Rattle.fx_results.specs.declared.faults.ShapeFault.TheVariants as fault
use Rattle.fx_laws_results.specs.Told.{AreColumns, AreRows, AreTerms}
use Rattle.fx_laws_results.proofs.PartLemmas.{and_true, is_one_of, object_of, one_of, or_ok, out_ok, result_some, string_of, then_ok, then_some}
use Rattle.fx_laws_results.proofs.TermLemmas.{term_from, term_there}

-- ---- rows

terms_there : (columns : List (List ℕ)) (ms : Members) (row : Bindings) → are_columns columns ms ≡ true → terms_in ms ≡ Ok row → AreTerms columns ms row
terms_there columns no_members row h e = subst (AreTerms columns no_members) (out_ok [] row e) tt
terms_there columns (member name d rest) row h e =
    let both = and_true (is_among columns name) (are_columns columns rest) h in
    let t = then_ok (term_in d) (λ term. and_then (terms_in rest) (λ more. Ok ((name, term) ∷ more))) row e in
    let m = then_ok (terms_in rest) (λ more. Ok ((name, t.0) ∷ more)) row t.2 in
    subst (AreTerms columns (member name d rest)) (out_ok ((name, t.0) ∷ m.0) row m.2)
    (refl, contains_from columns name (one_of columns name both.0), term_there d t.0 t.1, terms_there columns rest m.0 both.1 m.1)

row_there : (columns : List (List ℕ)) (ms : Members) (row : Bindings) → row_of columns ms ≡ Ok row → AreTerms columns ms row
row_there columns ms row e = by (are_columns columns ms) refl e
  where
    by : (b : Bool) → are_columns columns ms ≡ b → (if b then terms_in ms else Err (Shape fault.Row)) ≡ Ok row → AreTerms columns ms row
    by true h k = terms_there columns ms row h k
    by false h k = absurd (cc)

terms_from : (columns : List (List ℕ)) (ms : Members) (row : Bindings) → AreTerms columns ms row → (are_columns columns ms ≡ true) × (terms_in ms ≡ Ok row)
terms_from columns no_members [] h = (refl, refl)
terms_from columns no_members (e ∷ es) h = absurd h
terms_from columns (member name d rest) [] h = absurd h
terms_from columns (member name d rest) (e ∷ es) h =
    let more = terms_from columns rest es h.3 in (
      ap (λ (b : Bool). b && are_columns columns rest) (is_one_of columns name (among_from columns name h.1)) ∙ more.0,
      ap (λ (r : Result Term ResultsError). and_then r (λ term. and_then (terms_in rest) (λ others. Ok ((name, term) ∷ others)))) (term_from d e.1 h.2)
          ∙ (ap (λ (r : Result Bindings ResultsError). and_then r (λ others. Ok ((name, e.1) ∷ others))) more.1 ∙ ap (λ (n : List ℕ). Ok ((n, e.1) ∷ es)) h.0),
    )

row_from : (columns : List (List ℕ)) (ms : Members) (row : Bindings) → AreTerms columns ms row → row_of columns ms ≡ Ok row
row_from columns ms row h = let t = terms_from columns ms row h in ap (λ (b : Bool). if b then terms_in ms else Err (Shape fault.Row)) t.0 ∙ t.1

pub rows_there : (columns : List (List ℕ)) (ds : Items) (rows : List Bindings) → rows_in columns ds ≡ Ok rows → AreRows columns ds rows
rows_there columns no_items rows e = subst (AreRows columns no_items) (out_ok [] rows e) tt
rows_there columns (item d rest) rows e =
    let r = then_ok (row_in columns d) (λ row. and_then (rows_in columns rest) (λ more. Ok (row ∷ more))) rows e in
    let m = then_ok (rows_in columns rest) (λ more. Ok (r.0 ∷ more)) rows r.2 in
    let o = then_ok (ok_or (as_object d) (Shape fault.Row)) (row_of columns) r.0 r.1 in
    subst (AreRows columns (item d rest)) (out_ok (r.0 ∷ m.0) rows m.2)
    (o.0, object_of d o.0 (or_ok (as_object d) (Shape fault.Row) o.0 o.1), row_there columns o.0 r.0 o.2, rows_there columns rest m.0 m.1)

pub rows_from : (columns : List (List ℕ)) (ds : Items) (rows : List Bindings) → AreRows columns ds rows → rows_in columns ds ≡ Ok rows
rows_from columns no_items [] h = refl
rows_from columns no_items (row ∷ rows) h = absurd h
rows_from columns (item d rest) [] h = absurd h
rows_from columns (item d rest) (row ∷ rows) h =
    ap (λ (v : Data). and_then (row_in columns v) (λ r. and_then (rows_in columns rest) (λ more. Ok (r ∷ more)))) h.1
    ∙ (ap (λ (r : Result Bindings ResultsError). and_then r (λ r. and_then (rows_in columns rest) (λ more. Ok (r ∷ more)))) (row_from columns h.0 row h.2)
    ∙ ap (λ (r : Result (List Bindings) ResultsError). and_then r (λ more. Ok (row ∷ more))) (rows_from columns rest rows h.3))

-- ---- columns

front_there : (o : Option (List ℕ)) (os : Option (List (List ℕ))) (names : List (List ℕ)) → in_front o os ≡ Some names → (x : List ℕ) × (xs : List (List ℕ)) × (o ≡ Some x) × (os ≡ Some xs) × (x ∷ xs ≡ names)
front_there None os names e = absurd (cc)
front_there (Some x) None names e = absurd (cc)
front_there (Some x) (Some xs) names e = (x, xs, refl, refl, inside e)
  where
    inside : Some (x ∷ xs) ≡ Some names → x ∷ xs ≡ names
    inside k = cc

not_true : (b : Bool) → not b ≡ true → b ≡ true → ⊥
not_true true e f = absurd (cc)
not_true false e f = absurd (cc)

from_not : (b : Bool) → (b ≡ true → ⊥) → not b ≡ true
from_not true f = absurd (f refl)
from_not false f = refl

pub columns_there : (ds : Items) (names : List (List ℕ)) → names_in ds ≡ Some names → are_distinct names ≡ true → AreColumns ds names
columns_there no_items names e h = subst (AreColumns no_items) (inside e) tt
  where
    inside : Some [] ≡ Some names → [] ≡ names
    inside k = cc
columns_there (item d rest) names e h =
    let f = front_there (name_in d) (names_in rest) names e in
    let t = then_some (as_str d) (λ text. result_ok (read_name text)) f.0 f.2 in
    let both = and_true (not (is_among f.1 f.0)) (are_distinct f.1) (ap are_distinct f.4 ∙ h) in
    subst (AreColumns (item d rest)) f.4
    (t.0, string_of d t.0 t.1, result_some (read_name t.0) f.0 t.2, λ c. not_true (is_among f.1 f.0) both.0 (is_one_of f.1 f.0 (among_from f.1 f.0 c)), columns_there rest f.1 f.3 both.1)

pub columns_from : (ds : Items) (names : List (List ℕ)) → AreColumns ds names → (names_in ds ≡ Some names) × (are_distinct names ≡ true)
columns_from no_items [] h = (refl, refl)
columns_from no_items (n ∷ ns) h = absurd h
columns_from (item d rest) [] h = absurd h
columns_from (item d rest) (n ∷ ns) h =
    let more = columns_from rest ns h.4 in (
      ap (λ (v : Data). in_front (name_in v) (names_in rest)) h.1
          ∙ (ap (λ (o : Option (List ℕ)). in_front o (names_in rest)) (ap result_ok h.2) ∙ ap (λ (o : Option (List (List ℕ))). in_front (Some n) o) more.0),
      ap (λ (b : Bool). b && are_distinct ns) (from_not (is_among ns n) (λ e. h.3 (contains_from ns n (one_of ns n e)))) ∙ more.1,
    )
