-- What some literals of the types of integers are worth, written out.
use Rattle.std.specs.Prelude.{◌≡◌, ℕ, pos, false, List, [], Some, None, codes}
use Rattle.std.proofs.Common.{refl}
use Rattle.fx_terms.specs.declared.terms.Term.{Term}
use Rattle.fx_terms.specs.declared.terms.Term.TheVariants as term
use Rattle.fx_algebra.specs.declared.worths.Worth.TheVariants as worth
use Rattle.fx_algebra.specs.Worths.{kind_of, integer_type, is_good_form, is_integer_form, is_in_range, minus, worth_of, truth}

abbrev byte : List ℕ → Term
byte form = term.Literal (record { form = form; datatype = codes "http://www.w3.org/2001/XMLSchema#byte"; tag = [] })

abbrev unsigned_long : List ℕ → Term
unsigned_long form = term.Literal (record { form = form; datatype = codes "http://www.w3.org/2001/XMLSchema#unsignedLong"; tag = [] })

-- forms of one number have one value
pub seven : worth_of (byte (codes "07")) ≡ worth.Integer (pos 7)
unfolding worth_of kind_of integer_type is_good_form is_integer_form is_in_range
seven = refl

pub the_least_byte : worth_of (byte (codes "-128")) ≡ worth.Integer (minus 128)
unfolding worth_of kind_of integer_type is_good_form is_integer_form is_in_range
the_least_byte = refl

-- a number out of its type's range has no value, and is false
pub no_byte : worth_of (byte (codes "300")) ≡ worth.Opaque
unfolding worth_of kind_of integer_type is_good_form is_integer_form is_in_range
no_byte = refl

pub no_byte_is_false : truth (byte (codes "300")) ≡ Some false
unfolding truth kind_of integer_type is_good_form is_integer_form is_in_range
no_byte_is_false = refl

-- a number in its type's range that isn't one of 64 bits with a sign has no value either, and is the error
pub too_great : worth_of (unsigned_long (codes "18446744073709551615")) ≡ worth.Opaque
unfolding worth_of kind_of integer_type is_good_form is_integer_form is_in_range
too_great = refl

pub too_great_is_the_error : truth (unsigned_long (codes "18446744073709551615")) ≡ None
unfolding truth kind_of integer_type is_good_form is_integer_form is_in_range
too_great_is_the_error = refl
