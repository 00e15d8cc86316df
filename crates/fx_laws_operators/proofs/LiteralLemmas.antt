-- What literals are worth, and their truth.
use Rattle.std.proofs.Common.{◌≡◌, ◌≢◌, ◌∙◌, ap, refl, ℕ, Bool, true, false, not, ◌||◌, if◌then◌else◌, List, length, Option, Some, None, option_map, option_and_then}
use Rattle.std.specs.Prelude.{ℤ, codes, ◌==◌}
use Rattle.std.specs.Str.{bytes_eq}
use Rattle.std.specs.Str.Parse.{signed_digits_value}
use Rattle.std.specs.Cmp.Lexicographic.{bytes_decides}
use Rattle.fx_terms.specs.Datatypes.{lang_string, xsd_boolean, xsd_string}
use Rattle.fx_terms.specs.declared.terms.Term.TheVariants as term
use Rattle.fx_algebra.specs.Worths.{boolean_truth, boolean_worth, if_in_range, integer_truth, integer_type, integer_worth, is_good_form, is_not_zero, kind_by, kind_of, read_boolean, truth, truth_by, worth_by, worth_of, written_integer}
use Rattle.fx_algebra.specs.declared.worths.IntegerType.{IntegerType}
use Rattle.fx_algebra.specs.declared.worths.Kind.{Kind}
use Rattle.fx_algebra.specs.declared.worths.Kind.TheVariants as kind
use Rattle.fx_algebra.specs.declared.worths.Worth.{Worth}
use Rattle.fx_algebra.specs.declared.worths.Worth.TheVariants as worth
use Rattle.fx_laws_operators.specs.Literals.{Is, IsOther, Literals, literal}
use Rattle.fx_laws_operators.specs.Operators.{fits}
use Rattle.fx_laws_operators.proofs.WorthLemmas.{fits_is}

-- by the kind of the datatype
of_kind : (k : Kind) (form datatype tag : List ℕ) (w : Worth) (o : Option Bool) → kind_of datatype ≡ k → worth_by k form ≡ w → truth_by k form ≡ o → Is (literal form datatype tag) w o
unfolding worth_of truth
of_kind k form datatype tag w o e f g = (ap (λ (x : Kind). worth_by x form) e ∙ f, ap (λ (x : Kind). truth_by x form) e ∙ g)

string_kind : kind_of xsd_string ≡ kind.Text
unfolding kind_of integer_type
string_kind = refl

tagged_kind : kind_of lang_string ≡ kind.Tagged
unfolding kind_of integer_type
tagged_kind = refl

boolean_kind : kind_of xsd_boolean ≡ kind.Boolean
unfolding kind_of integer_type
boolean_kind = refl

integer_kind : (t : IntegerType) (datatype : List ℕ) → integer_type datatype ≡ Some t → kind_of datatype ≡ kind.Integer t
unfolding kind_of
integer_kind t datatype e = ap (λ (o : Option IntegerType). kind_by o datatype) e

differs : (a b : List ℕ) → a ≢ b → bytes_eq a b ≡ false
differs a b h = by (bytes_eq a b) refl
  where
    by : (c : Bool) → bytes_eq a b ≡ c → c ≡ false
    by true e = absurd (h ((bytes_decides a b).0 e))
    by false e = refl

other_kind_is : (datatype : List ℕ) → IsOther datatype → kind_of datatype ≡ kind.Other
unfolding kind_of
other_kind_is datatype h =
    ap (λ (o : Option IntegerType). kind_by o datatype) h.no_integer
    ∙ (ap (λ (b : Bool). if b then kind.Boolean else (if bytes_eq datatype xsd_string then kind.Text else (if bytes_eq datatype lang_string then kind.Tagged else kind.Other))) (differs datatype xsd_boolean h.no_boolean)
    ∙ (ap (λ (b : Bool). if b then kind.Text else (if bytes_eq datatype lang_string then kind.Tagged else kind.Other)) (differs datatype xsd_string h.no_string)
    ∙ ap (λ (b : Bool). if b then kind.Tagged else kind.Other) (differs datatype lang_string h.no_tagged)))

-- ---- truth values

of_boolean : (form tag : List ℕ) (o : Option Bool) → read_boolean form ≡ o → Is (literal form xsd_boolean tag) (boolean_worth o) (boolean_truth o)
of_boolean form tag o e = of_kind kind.Boolean form xsd_boolean tag (boolean_worth o) (boolean_truth o) boolean_kind (ap boolean_worth e) (ap boolean_truth e)

reads_true : read_boolean (codes "true") ≡ Some true
unfolding read_boolean
reads_true = refl

reads_one : read_boolean (codes "1") ≡ Some true
unfolding read_boolean
reads_one = refl

reads_false : read_boolean (codes "false") ≡ Some false
unfolding read_boolean
reads_false = refl

reads_zero : read_boolean (codes "0") ≡ Some false
unfolding read_boolean
reads_zero = refl

reads_none : (form : List ℕ) → form ≢ codes "true" → form ≢ codes "1" → form ≢ codes "false" → form ≢ codes "0" → read_boolean form ≡ None
unfolding read_boolean
reads_none form a b c d =
    ap (λ (x : Bool). if x || bytes_eq form (codes "1") then Some true else (if bytes_eq form (codes "false") || bytes_eq form (codes "0") then Some false else None)) (differs form (codes "true") a)
    ∙ (ap (λ (x : Bool). if x then Some true else (if bytes_eq form (codes "false") || bytes_eq form (codes "0") then Some false else None)) (differs form (codes "1") b)
    ∙ (ap (λ (x : Bool). if x || bytes_eq form (codes "0") then Some false else None) (differs form (codes "false") c)
    ∙ ap (λ (x : Bool). if x then Some false else None) (differs form (codes "0") d)))

-- ---- integers

abbrev written : List ℕ → ℤ
written form = signed_digits_value 10 form

writes : (t : IntegerType) (form : List ℕ) (b : Bool) → is_good_form t form ≡ b → written_integer t form ≡ (if b then Some (written form) else None)
writes t form b e = ap (λ (x : Bool). if x then Some (written form) else None) e

of_integer : (t : IntegerType) (form datatype tag : List ℕ) (o : Option ℤ) → integer_type datatype ≡ Some t → written_integer t form ≡ o → Is (literal form datatype tag) (integer_worth (option_and_then if_in_range o)) (integer_truth o)
of_integer t form datatype tag o e f =
    of_kind (kind.Integer t) form datatype tag (integer_worth (option_and_then if_in_range o)) (integer_truth o) (integer_kind t datatype e)
    (ap (λ (x : Option ℤ). integer_worth (option_and_then if_in_range x)) f) (ap integer_truth f)

in_range : (z : ℤ) (b : Bool) → fits z ≡ b → if_in_range z ≡ (if b then Some z else None)
in_range z b e = ap (λ (x : Bool). if x then Some z else None) (fits_is z ∙ e)

iri_is : (x : List ℕ) → Is (term.Iri x) worth.Opaque None
unfolding worth_of truth
iri_is x = (refl, refl)

pub literals : Literals
literals = record {
  iri = λ x. iri_is x;
  string = λ form tag. of_kind kind.Text form xsd_string tag worth.Text (Some (not (length form == 0))) string_kind refl refl;
  tagged = λ form tag. of_kind kind.Tagged form lang_string tag worth.Opaque None tagged_kind refl refl;
  true_word = λ tag. of_boolean (codes "true") tag (Some true) reads_true;
  one = λ tag. of_boolean (codes "1") tag (Some true) reads_one;
  false_word = λ tag. of_boolean (codes "false") tag (Some false) reads_false;
  zero = λ tag. of_boolean (codes "0") tag (Some false) reads_zero;
  no_truth = λ form tag a b c d. of_boolean form tag None (reads_none form a b c d);
  integer = λ t form datatype tag e g f.
      let h = of_integer t form datatype tag (Some (written form)) e (writes t form true g) in
      (h.0 ∙ ap integer_worth (in_range (written form) true f), h.1 ∙ ap (option_map is_not_zero) (in_range (written form) true f));
  wide_integer = λ t form datatype tag e g f.
      let h = of_integer t form datatype tag (Some (written form)) e (writes t form true g) in
      (h.0 ∙ ap integer_worth (in_range (written form) false f), h.1 ∙ ap (option_map is_not_zero) (in_range (written form) false f));
  no_integer = λ t form datatype tag e g. of_integer t form datatype tag None e (writes t form false g);
  other = λ form datatype tag h. of_kind kind.Other form datatype tag worth.Opaque None (other_kind_is datatype h) refl refl;
}
