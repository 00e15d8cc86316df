-- What literals are worth, and their truth, by the rows of SPARQL 1.1 sections 17.1 and 17.2.2, in this project's profile.
use Rattle.std.specs.Prelude.{◌≡◌, ◌≢◌, ◌==◌, not, pos, ℕ, Bool, true, false, List, length, codes, Option, Some, None}
use Rattle.std.specs.Ordering.{int_eq}
use Rattle.std.specs.Str.Parse.{signed_digits_value}
use Rattle.fx_terms.specs.Datatypes.{lang_string, xsd_boolean, xsd_string}
use Rattle.fx_terms.specs.declared.terms.Term.{Term}
use Rattle.fx_terms.specs.declared.terms.Term.TheVariants as term
use Rattle.fx_algebra.specs.Worths.{integer_type, is_good_form, truth, worth_of}
use Rattle.fx_algebra.specs.declared.worths.IntegerType.{IntegerType}
use Rattle.fx_algebra.specs.declared.worths.Worth.{Worth}
use Rattle.fx_algebra.specs.declared.worths.Worth.TheVariants as worth
use Rattle.fx_laws_operators.specs.Operators.{fits}

-- what a term is worth, and its truth, where None is the error
abbrev pub Is : Term → Worth → Option Bool → Type 0
Is t w o = (worth_of t ≡ w) × (truth t ≡ o)

abbrev pub literal : List ℕ → List ℕ → List ℕ → Term
literal form datatype tag = term.Literal (record { form = form; datatype = datatype; tag = tag })

-- a datatype is none that has values
pub record IsOther (datatype : List ℕ) : Type 0 where
  pub no_integer : integer_type datatype ≡ None
  pub no_boolean : datatype ≢ xsd_boolean
  pub no_string : datatype ≢ xsd_string
  pub no_tagged : datatype ≢ lang_string

pub record Literals : Type 0 where
  pub iri : (x : List ℕ) → Is (term.Iri x) worth.Opaque None
  pub string : (form tag : List ℕ) → Is (literal form xsd_string tag) worth.Text (Some (not (length form == 0)))
  pub tagged : (form tag : List ℕ) → Is (literal form lang_string tag) worth.Opaque None
  pub true_word : (tag : List ℕ) → Is (literal (codes "true") xsd_boolean tag) (worth.Boolean true) (Some true)
  pub one : (tag : List ℕ) → Is (literal (codes "1") xsd_boolean tag) (worth.Boolean true) (Some true)
  pub false_word : (tag : List ℕ) → Is (literal (codes "false") xsd_boolean tag) (worth.Boolean false) (Some false)
  pub zero : (tag : List ℕ) → Is (literal (codes "0") xsd_boolean tag) (worth.Boolean false) (Some false)
  -- a truth value that is written otherwise has none, and is false
  pub no_truth : (form tag : List ℕ) → form ≢ codes "true" → form ≢ codes "1" → form ≢ codes "false" → form ≢ codes "0" → Is (literal form xsd_boolean tag) worth.Opaque (Some false)
  -- the number that a good form of a type of integers writes, if it is one of 64 bits; it is true where it isn't 0
  pub integer : (t : IntegerType) (form datatype tag : List ℕ) → integer_type datatype ≡ Some t → is_good_form t form ≡ true → fits (signed_digits_value 10 form) ≡ true →
      Is (literal form datatype tag) (worth.Integer (signed_digits_value 10 form)) (Some (not (int_eq (signed_digits_value 10 form) (pos 0))))
  pub wide_integer : (t : IntegerType) (form datatype tag : List ℕ) → integer_type datatype ≡ Some t → is_good_form t form ≡ true → fits (signed_digits_value 10 form) ≡ false →
      Is (literal form datatype tag) worth.Opaque None
  pub no_integer : (t : IntegerType) (form datatype tag : List ℕ) → integer_type datatype ≡ Some t → is_good_form t form ≡ false → Is (literal form datatype tag) worth.Opaque (Some false)
  pub other : (form datatype tag : List ℕ) → IsOther datatype → Is (literal form datatype tag) worth.Opaque None
