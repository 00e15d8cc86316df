-- What literals are worth: the integers, truth values and strings of this project's profile of SPARQL 1.1 section 17. Integers are the
-- literals of xsd:integer and of the twelve types that XML Schema derives from it.
use Rattle.std.specs.Prelude.{ℕ, ◌^◌, ◌==◌, ◌&&◌, ◌||◌, not, nat_lt, ℤ, pos, negsuc, neg_ℤ, int_le, Bool, true, false, List, length, take, drop, codes, Option, Some, None, option_map, option_and_then, if◌then◌else◌}
use Rattle.std.specs.List.{list_all}
use Rattle.std.specs.Ordering.{int_eq}
use Rattle.std.specs.Str.{bytes_eq}
use Rattle.std.specs.Str.Parse.{without_leading_sign, signed_digits_value}
use Rattle.fx_terms.specs.Iris.{is_digit}
use Rattle.fx_terms.specs.Datatypes.{xsd, xsd_string, xsd_boolean, lang_string}
use Rattle.fx_terms.specs.declared.terms.Term.{Term}
use Rattle.fx_terms.specs.declared.terms.Term.TheVariants as term
use Rattle.fx_algebra.specs.declared.worths.IntegerType.{IntegerType}
use Rattle.fx_algebra.specs.declared.worths.IntegerType.TheVariants as integers
use Rattle.fx_algebra.specs.declared.worths.Kind.{Kind}
use Rattle.fx_algebra.specs.declared.worths.Kind.TheVariants as kind
use Rattle.fx_algebra.specs.declared.worths.Worth.{Worth}
use Rattle.fx_algebra.specs.declared.worths.Worth.TheVariants as worth

-- ---- types of integers (SPARQL 1.1 section 17.1, XML Schema part 2 sections 3.3.13 to 3.3.25)

-- what stands behind the namespace in a datatype, if it is of that namespace
abbrev pub schema_name : List ℕ → Option (List ℕ)
schema_name datatype = if bytes_eq (take (length xsd) datatype) xsd then Some (drop (length xsd) datatype) else None

-- the types of integers by their names
abbrev pub type_named : List ℕ → Option IntegerType
type_named name =
    if bytes_eq name (codes "integer") then Some integers.Integer
    else (if bytes_eq name (codes "nonPositiveInteger") then Some integers.NonPositiveInteger
    else (if bytes_eq name (codes "negativeInteger") then Some integers.NegativeInteger
    else (if bytes_eq name (codes "nonNegativeInteger") then Some integers.NonNegativeInteger
    else (if bytes_eq name (codes "positiveInteger") then Some integers.PositiveInteger
    else (if bytes_eq name (codes "long") then Some integers.Long
    else (if bytes_eq name (codes "int") then Some integers.Int
    else (if bytes_eq name (codes "short") then Some integers.Short
    else (if bytes_eq name (codes "byte") then Some integers.Byte
    else (if bytes_eq name (codes "unsignedLong") then Some integers.UnsignedLong
    else (if bytes_eq name (codes "unsignedInt") then Some integers.UnsignedInt
    else (if bytes_eq name (codes "unsignedShort") then Some integers.UnsignedShort
    else (if bytes_eq name (codes "unsignedByte") then Some integers.UnsignedByte
    else None))))))))))))

-- the type of integers that a datatype is
unfoldable pub integer_type : List ℕ → Option IntegerType
integer_type datatype = option_and_then type_named (schema_name datatype)

abbrev pub minus : ℕ → ℤ
minus n = neg_ℤ (pos n)

-- the least number of a type, where it has one
abbrev pub least : IntegerType → Option ℤ
least integers.Integer = None
least integers.NonPositiveInteger = None
least integers.NegativeInteger = None
least integers.NonNegativeInteger = Some (pos 0)
least integers.PositiveInteger = Some (pos 1)
least integers.Long = Some (minus 9_223_372_036_854_775_808)
least integers.Int = Some (minus 2_147_483_648)
least integers.Short = Some (minus 32_768)
least integers.Byte = Some (minus 128)
least integers.UnsignedLong = Some (pos 0)
least integers.UnsignedInt = Some (pos 0)
least integers.UnsignedShort = Some (pos 0)
least integers.UnsignedByte = Some (pos 0)

-- the greatest number of a type, where it has one
abbrev pub greatest : IntegerType → Option ℤ
greatest integers.Integer = None
greatest integers.NonPositiveInteger = Some (pos 0)
greatest integers.NegativeInteger = Some (minus 1)
greatest integers.NonNegativeInteger = None
greatest integers.PositiveInteger = None
greatest integers.Long = Some (pos 9_223_372_036_854_775_807)
greatest integers.Int = Some (pos 2_147_483_647)
greatest integers.Short = Some (pos 32_767)
greatest integers.Byte = Some (pos 127)
greatest integers.UnsignedLong = Some (pos 18_446_744_073_709_551_615)
greatest integers.UnsignedInt = Some (pos 4_294_967_295)
greatest integers.UnsignedShort = Some (pos 65_535)
greatest integers.UnsignedByte = Some (pos 255)

abbrev pub is_from : Option ℤ → ℤ → Bool
is_from None z = true
is_from (Some low) z = int_le low z

abbrev pub is_up_to : Option ℤ → ℤ → Bool
is_up_to None z = true
is_up_to (Some high) z = int_le z high

-- a number lies in the range of a type
abbrev pub is_of : IntegerType → ℤ → Bool
is_of t z = is_from (least t) z && is_up_to (greatest t) z

-- ---- forms of integers

-- one digit or more
abbrev pub are_digits : List ℕ → Bool
are_digits ds = not (length ds == 0) && list_all is_digit ds

-- a sign or none, and then one digit or more
unfoldable pub is_integer_form : List ℕ → Bool
is_integer_form form = are_digits (without_leading_sign form)

-- the good forms of a type: those that write a number in its range. A sign is allowed for each type
unfoldable pub is_good_form : IntegerType → List ℕ → Bool
is_good_form t form = is_integer_form form && is_of t (signed_digits_value 10 form)

-- the integer that a good form writes, however long
abbrev pub written_integer : IntegerType → List ℕ → Option ℤ
written_integer t form = if is_good_form t form then Some (signed_digits_value 10 form) else None

-- the range of integers with a value: those of 64 bits with a sign; `negsuc n` is the negative of n + 1
unfoldable pub is_in_range : ℤ → Bool
is_in_range (pos n) = nat_lt n (2 ^ 63)
is_in_range (negsuc n) = nat_lt n (2 ^ 63)

-- an integer, where it is in range
abbrev pub if_in_range : ℤ → Option ℤ
if_in_range z = if is_in_range z then Some z else None

-- the value of a form: the integer that it writes, where it is a good one and the integer is in range
abbrev pub read_integer : IntegerType → List ℕ → Option ℤ
read_integer t form = option_and_then if_in_range (written_integer t form)

-- ---- truth values

-- the truth value that a form of xsd:boolean writes
unfoldable pub read_boolean : List ℕ → Option Bool
read_boolean form =
    if bytes_eq form (codes "true") || bytes_eq form (codes "1") then Some true
    else (if bytes_eq form (codes "false") || bytes_eq form (codes "0") then Some false else None)

-- ---- literals

-- what a datatype says that is none of integers
abbrev pub other_kind : List ℕ → Kind
other_kind datatype =
    if bytes_eq datatype xsd_boolean then kind.Boolean
    else (if bytes_eq datatype xsd_string then kind.Text
    else (if bytes_eq datatype lang_string then kind.Tagged else kind.Other))

abbrev pub kind_by : Option IntegerType → List ℕ → Kind
kind_by (Some t) datatype = kind.Integer t
kind_by None datatype = other_kind datatype

-- what the datatype of a literal says of it
unfoldable pub kind_of : List ℕ → Kind
kind_of datatype = kind_by (integer_type datatype) datatype

abbrev pub integer_worth : Option ℤ → Worth
integer_worth (Some z) = worth.Integer z
integer_worth None = worth.Opaque

abbrev pub boolean_worth : Option Bool → Worth
boolean_worth (Some b) = worth.Boolean b
boolean_worth None = worth.Opaque

-- a literal has a value where it is an integer with one, of whatever type of integers, a truth value or a string; every other is opaque
abbrev pub worth_by : Kind → List ℕ → Worth
worth_by (kind.Integer t) form = integer_worth (read_integer t form)
worth_by kind.Boolean form = boolean_worth (read_boolean form)
worth_by kind.Text form = worth.Text
worth_by kind.Tagged form = worth.Opaque
worth_by kind.Other form = worth.Opaque

-- what a term is worth; an IRI has no value but itself
unfoldable pub worth_of : Term → Worth
worth_of (term.Iri a) = worth.Opaque
worth_of (term.Literal a) = worth_by (kind_of a.datatype) a.form

-- ---- truth (SPARQL 1.1 section 17.2.2)

abbrev pub is_not_zero : ℤ → Bool
is_not_zero z = not (int_eq z (pos 0))

-- whether an integer is not zero: false for a form that isn't good, the error for a good one without a value
abbrev pub integer_truth : Option ℤ → Option Bool
integer_truth None = Some false
integer_truth (Some z) = option_map is_not_zero (if_in_range z)

-- a truth value itself: false for a bad form
abbrev pub boolean_truth : Option Bool → Option Bool
boolean_truth None = Some false
boolean_truth (Some b) = Some b

abbrev pub truth_by : Kind → List ℕ → Option Bool
truth_by (kind.Integer t) form = integer_truth (written_integer t form)
truth_by kind.Boolean form = boolean_truth (read_boolean form)
truth_by kind.Text form = Some (not (length form == 0))
truth_by kind.Tagged form = None
truth_by kind.Other form = None

-- the truth of a term; none is the error
unfoldable pub truth : Term → Option Bool
truth (term.Iri a) = None
truth (term.Literal a) = truth_by (kind_of a.datatype) a.form
