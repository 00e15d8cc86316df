-- The order of values under ORDER BY (SPARQL 1.1 section 15.1), in this project's profile: the error and an unbound variable,
-- then IRIs by code points, then integers with a value by it, truth values with false first, strings by code points, and all
-- other literals by datatype, tag and form. Integers that differ in their form or type alone tie, and truth values that differ in
-- their form.
use Rattle.std.specs.Prelude.{ℕ, ℤ, pos, Bool, true, false, List, [], Option}
use Rattle.std.specs.Option.{option_to_list}
use Rattle.std.specs.declared.cmp.Ordering.{Ordering}
use Rattle.std.specs.Ordering.{nat_cmp, int_cmp, on, then_cmp}
use Rattle.std.specs.Cmp.{IsTotalOrder}
use Rattle.std.specs.Cmp.Lexicographic.{slice_cmp}
use Rattle.std.proofs.lemmas.Cmp.{then_total, on_total, lists_total, nat_cmp_total, int_cmp_total}
use Rattle.fx_terms.specs.Texts.{text_cmp, texts_total}
use Rattle.fx_terms.specs.Terms.{form_of, datatype_of, tag_of}
use Rattle.fx_terms.specs.declared.terms.Term.{Term}
use Rattle.fx_terms.specs.declared.terms.Term.TheVariants as term
use Rattle.fx_algebra.specs.declared.worths.Worth.{Worth}
use Rattle.fx_algebra.specs.declared.worths.Worth.TheVariants as worth
use Rattle.fx_algebra.specs.Worths.{worth_of}

abbrev pub opaque_place : Term → ℕ
opaque_place (term.Iri a) = 0
opaque_place (term.Literal a) = 4

-- the place of a kind of values
abbrev pub place_by : Worth → Term → ℕ
place_by (worth.Integer z) t = 1
place_by (worth.Boolean b) t = 2
place_by worth.Text t = 3
place_by worth.Opaque t = opaque_place t

abbrev pub truth_number : Bool → ℤ
truth_number false = pos 0
truth_number true = pos 1

-- the number by which integers and truth values are ordered
abbrev pub number_by : Worth → ℤ
number_by (worth.Integer z) = z
number_by (worth.Boolean b) = truth_number b
number_by worth.Text = pos 0
number_by worth.Opaque = pos 0

-- the texts by which all others are ordered
abbrev pub text_by : Worth → List ℕ → List ℕ
text_by (worth.Integer z) text = []
text_by (worth.Boolean b) text = []
text_by worth.Text text = text
text_by worth.Opaque text = text

abbrev pub place : Term → ℕ
place t = place_by (worth_of t) t

abbrev pub number : Term → ℤ
number t = number_by (worth_of t)

abbrev pub datatype_key : Term → List ℕ
datatype_key t = text_by (worth_of t) (datatype_of t)

abbrev pub tag_key : Term → List ℕ
tag_key t = text_by (worth_of t) (tag_of t)

abbrev pub form_key : Term → List ℕ
form_key t = text_by (worth_of t) (form_of t)

-- the order of terms as keys
abbrev pub term_order : Term → Term → Ordering
term_order = then_cmp (on place nat_cmp) (then_cmp (on number int_cmp) (then_cmp (on datatype_key text_cmp) (then_cmp (on tag_key text_cmp) (on form_key text_cmp))))

-- the order of keys: the error first
abbrev pub key_order : Option Term → Option Term → Ordering
key_order = on option_to_list (slice_cmp term_order)

pub terms_in_order : IsTotalOrder term_order
terms_in_order = then_total (on_total place nat_cmp_total) (then_total (on_total number int_cmp_total) (then_total (on_total datatype_key texts_total) (then_total (on_total tag_key texts_total) (on_total form_key texts_total))))

pub keys_in_order : IsTotalOrder key_order
keys_in_order = on_total option_to_list (lists_total terms_in_order)
