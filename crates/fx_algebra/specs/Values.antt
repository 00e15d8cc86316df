-- The value of an expression on a solution (SPARQL 1.1 section 17), in this project's profile: integers of 64 bits, of xsd:integer
-- and the types that are derived from it, truth values and strings have values, and other literals compare as terms. None is the error.
use Rattle.std.specs.Prelude.{ℕ, ◌+ℤ◌, ◌-ℤ◌, ◌*ℤ◌, neg_ℤ, not, ℤ, pos, Bool, true, false, List, [], ◌∷◌, map, length, Option, Some, None, option_map, option_and_then, if◌then◌else◌, is_none, is_some}
use Rattle.std.specs.List.{list_any}
use Rattle.std.specs.Fmt.{signed_decimal}
use Rattle.std.specs.Str.{chars, bytes_eq}
use Rattle.std.specs.Prelude.{codes}
use Rattle.std.specs.declared.cmp.Ordering.{Ordering}
use Rattle.std.specs.Ordering.{int_cmp, int_eq, bool_cmp, is_lt, is_le, is_gt, is_ge, is_eq}
use Rattle.fx_terms.specs.Datatypes.{xsd_integer, xsd_boolean}
use Rattle.fx_terms.specs.Texts.{text_cmp}
use Rattle.fx_terms.specs.Terms.{form_of}
use Rattle.fx_terms.specs.Literals.{plain}
use Rattle.fx_terms.specs.declared.terms.Term.{Term}
use Rattle.fx_terms.specs.declared.terms.Term.TheVariants as term
use Rattle.fx_algebra.specs.Solutions.{Bindings, term_of, same_term}
use Rattle.fx_algebra.specs.declared.expressions.Compare.{Compare}
use Rattle.fx_algebra.specs.declared.expressions.Compare.TheVariants as compare
use Rattle.fx_algebra.specs.declared.expressions.Sign.{Sign}
use Rattle.fx_algebra.specs.declared.expressions.Sign.TheVariants.{Plus, Minus}
use Rattle.fx_algebra.specs.declared.expressions.Function.{Function}
use Rattle.fx_algebra.specs.declared.expressions.Function.TheVariants as function
use Rattle.fx_algebra.specs.declared.expressions.Expr.{Expr, Expr-F, fold-Expr}
use Rattle.fx_algebra.specs.declared.worths.Worth.{Worth}
use Rattle.fx_algebra.specs.declared.worths.Worth.TheVariants as worth
use Rattle.fx_algebra.specs.Worths.{if_in_range, worth_of, truth}
use Rattle.fx_algebra.specs.Words.{begins, ends, has_part, forms, string_form, worded_form, in_language}

-- ---- the terms of values

abbrev pub truth_form : Bool → List ℕ
truth_form true = codes "true"
truth_form false = codes "false"

unfoldable pub boolean : Bool → Term
boolean b = term.Literal (record { form = truth_form b; datatype = xsd_boolean; tag = [] })

-- the number that an expression makes, of xsd:integer whatever it is made of: in plain decimal, with a dash where it is negative
unfoldable pub integer : ℤ → Term
integer z = term.Literal (record { form = signed_decimal z; datatype = xsd_integer; tag = [] })

unfoldable pub string : List ℕ → Term
string form = term.Literal (plain form)

-- ---- truth values

-- the truth of a value that may be the error
abbrev pub truth_of : Option Term → Option Bool
truth_of = option_and_then truth

abbrev pub is_true : Option Bool → Bool
is_true (Some b) = b
is_true None = false

abbrev pub is_false : Option Bool → Bool
is_false (Some b) = not b
is_false None = false

-- true where a part is true; else the error where a part is in error; else false
abbrev pub any_of : List (Option Bool) → Option Bool
any_of parts = if list_any is_true parts then Some true else (if list_any is_none parts then None else Some false)

-- false where a part is false; else the error where a part is in error; else true
abbrev pub all_of : List (Option Bool) → Option Bool
all_of parts = if list_any is_false parts then Some false else (if list_any is_none parts then None else Some true)

-- ---- comparisons

-- on two values, where neither is the error
abbrev pub on_both : {X : Type 0} → (Term → Term → Option X) → Option Term → Option Term → Option X
on_both f (Some a) (Some b) = f a b
on_both f (Some a) None = None
on_both f None b = None

-- true for the same term, the error for two literals, false otherwise
abbrev pub same_terms : Term → Term → Option Bool
same_terms (term.Literal a) (term.Literal b) = if same_term (term.Literal a) (term.Literal b) then Some true else None
same_terms (term.Literal a) (term.Iri b) = Some false
same_terms (term.Iri a) b = Some (same_term (term.Iri a) b)

abbrev pub equal_by : Worth → Worth → Term → Term → Option Bool
equal_by (worth.Integer m) (worth.Integer n) a b = Some (int_eq m n)
equal_by (worth.Boolean p) (worth.Boolean q) a b = Some (is_eq (bool_cmp p q))
equal_by worth.Text worth.Text a b = Some (bytes_eq (form_of a) (form_of b))
equal_by v w a b = same_terms a b

-- two integers, two truth values, two strings by value; else true for the same term, the error for two literals, and false
unfoldable pub equal : Term → Term → Option Bool
equal a b = equal_by (worth_of a) (worth_of b) a b

abbrev pub order_by : Worth → Worth → Term → Term → Option Ordering
order_by (worth.Integer m) (worth.Integer n) a b = Some (int_cmp m n)
order_by (worth.Boolean p) (worth.Boolean q) a b = Some (bool_cmp p q)
order_by worth.Text worth.Text a b = Some (text_cmp (form_of a) (form_of b))
order_by v w a b = None

-- the order of two integers, of two truth values, false first, or of two strings, by code points
unfoldable pub order : Term → Term → Option Ordering
order a b = order_by (worth_of a) (worth_of b) a b

abbrev pub compared : Compare → Term → Term → Option Bool
compared compare.Equal a b = equal a b
compared compare.NotEqual a b = option_map not (equal a b)
compared compare.Less a b = option_map is_lt (order a b)
compared compare.Greater a b = option_map is_gt (order a b)
compared compare.LessOrEqual a b = option_map is_le (order a b)
compared compare.GreaterOrEqual a b = option_map is_ge (order a b)

-- the truth, or its opposite
abbrev pub negated_by : Bool → Bool → Bool
negated_by true b = not b
negated_by false b = b

-- whether an item equals one of a list, as the Or of the comparisons
abbrev pub among : Option Term → List (Option Term) → Option Bool
among item list = any_of (map (on_both equal item) list)

-- ---- sums and products

abbrev pub integer_by : Worth → Option ℤ
integer_by (worth.Integer z) = Some z
integer_by (worth.Boolean b) = None
integer_by worth.Text = None
integer_by worth.Opaque = None

-- the integer that a value is
unfoldable pub integer_in : Option Term → Option ℤ
integer_in value = option_and_then (λ t. integer_by (worth_of t)) value

abbrev pub with_sign : Sign → ℤ → ℤ → ℤ
with_sign Plus m n = m +ℤ n
with_sign Minus m n = m -ℤ n

-- an integer with one more value under a sign, where that is one in range
unfoldable pub with_part : Sign → ℤ → Option Term → Option ℤ
with_part sign m value = option_and_then (λ n. if_in_range (with_sign sign m n)) (integer_in value)

-- from the left
abbrev pub sum_from : ℤ → List (Sign × Option Term) → Option ℤ
sum_from m [] = Some m
sum_from m (part ∷ parts) = option_and_then (λ n. sum_from n parts) (with_part part.0 m part.1)

abbrev pub sum : Option Term → List (Sign × Option Term) → Option ℤ
sum first parts = option_and_then (λ m. sum_from m parts) (integer_in first)

-- an integer times a value, where that is one in range
unfoldable pub with_factor : ℤ → Option Term → Option ℤ
with_factor m value = option_and_then (λ n. if_in_range (m *ℤ n)) (integer_in value)

-- from the left
abbrev pub product_from : ℤ → List (Option Term) → Option ℤ
product_from m [] = Some m
product_from m (part ∷ parts) = option_and_then (λ n. product_from n parts) (with_factor m part)

-- the product of one factor is the factor
abbrev pub product : List (Option Term) → Option ℤ
product parts = product_from (pos 1) parts

-- ---- functions

-- whether a value is bound
abbrev pub bound : List (Option Term) → Option Term
bound (a ∷ []) = Some (boolean (is_some a))
bound _ = None

-- the first that is not in error
abbrev pub first_of : List (Option Term) → Option Term
first_of [] = None
first_of (Some t ∷ rest) = Some t
first_of (None ∷ rest) = first_of rest

abbrev pub chosen_by : Option Bool → Option Term → Option Term → Option Term
chosen_by (Some true) a b = a
chosen_by (Some false) a b = b
chosen_by None a b = None

-- the second where the first is true, the third where it is false
abbrev pub chosen : List (Option Term) → Option Term
chosen (a ∷ b ∷ c ∷ []) = chosen_by (truth_of a) b c
chosen _ = None

-- the tag, which is empty where a literal has none
abbrev pub language : Term → Option Term
language (term.Literal a) = Some (string a.tag)
language (term.Iri a) = None

abbrev pub datatype : Term → Option Term
datatype (term.Literal a) = Some (term.Iri a.datatype)
datatype (term.Iri a) = None

-- the number of characters
abbrev pub characters : Term → Option ℤ
characters a = option_and_then (λ form. if_in_range (pos (length (chars form)))) (worded_form a)

abbrev pub is_iri : Term → Bool
is_iri (term.Iri a) = true
is_iri (term.Literal a) = false

-- an integer with a value
abbrev pub is_numeric : Term → Bool
is_numeric a = is_some (integer_in (Some a))

-- a function of one term
abbrev pub of_one : Function → Term → Option Term
of_one function.Str a = Some (string (form_of a))
of_one function.Lang a = language a
of_one function.Datatype a = datatype a
of_one function.StrLen a = option_map integer (characters a)
of_one function.IsIri a = Some (boolean (is_iri a))
of_one function.IsLiteral a = Some (boolean (not (is_iri a)))
of_one function.IsBlank a = Some (boolean false)
of_one function.IsNumeric a = Some (boolean (is_numeric a))
of_one _ a = None

-- a tag beside a range
abbrev pub language_matches : Option (List ℕ) → Option (List ℕ) → Option Bool
language_matches (Some tag) (Some range) = Some (in_language tag range)
language_matches (Some tag) None = None
language_matches None range = None

abbrev pub tested : (List ℕ → List ℕ → Bool) → Option (List ℕ × List ℕ) → Option Bool
tested test found = option_map (λ f. test f.0 f.1) found

-- a function of two terms
abbrev pub of_two : Function → Term → Term → Option Bool
of_two function.LangMatches a b = language_matches (string_form a) (string_form b)
of_two function.SameTerm a b = Some (same_term a b)
of_two function.Contains a b = tested has_part (forms a b)
of_two function.StrStarts a b = tested begins (forms a b)
of_two function.StrEnds a b = tested ends (forms a b)
of_two _ a b = None

abbrev pub one : Function → List (Option Term) → Option Term
one f (a ∷ []) = option_and_then (of_one f) a
one f _ = None

abbrev pub two : Function → List (Option Term) → Option Term
two f (a ∷ b ∷ []) = option_map boolean (on_both (of_two f) a b)
two f _ = None

-- a function on the values of its parts
abbrev pub call : Function → List (Option Term) → Option Term
call function.Bound args = bound args
call function.Coalesce args = first_of args
call function.If args = chosen args
call function.Str args = one function.Str args
call function.Lang args = one function.Lang args
call function.Datatype args = one function.Datatype args
call function.StrLen args = one function.StrLen args
call function.IsIri args = one function.IsIri args
call function.IsLiteral args = one function.IsLiteral args
call function.IsBlank args = one function.IsBlank args
call function.IsNumeric args = one function.IsNumeric args
call function.LangMatches args = two function.LangMatches args
call function.SameTerm args = two function.SameTerm args
call function.Contains args = two function.Contains args
call function.StrStarts args = two function.StrStarts args
call function.StrEnds args = two function.StrEnds args

-- ---- expressions

-- one level of an expression, with the value of each part in its place
abbrev pub value_step : Bindings → Expr-F (Option Term) → Option Term
value_step s (Expr-F.Variable name) = term_of s name
value_step s (Expr-F.Constant term) = Some term
value_step s (Expr-F.Or parts) = option_map boolean (any_of (map truth_of parts))
value_step s (Expr-F.And parts) = option_map boolean (all_of (map truth_of parts))
value_step s (Expr-F.Not part) = option_map (λ b. boolean (not b)) (truth_of part)
value_step s (Expr-F.Positive part) = option_map integer (integer_in part)
value_step s (Expr-F.Negative part) = option_map integer (option_and_then (λ n. if_in_range (neg_ℤ n)) (integer_in part))
value_step s (Expr-F.Compare op left right) = option_map boolean (on_both (compared op) left right)
value_step s (Expr-F.Among negated item list) = option_map boolean (option_map (negated_by negated) (among item list))
value_step s (Expr-F.Sum first rest) = option_map integer (sum first rest)
value_step s (Expr-F.Product parts) = option_map integer (product parts)
value_step s (Expr-F.Call function args) = call function args

-- the value on a solution; none is the error
abbrev pub value : Expr → Bindings → Option Term
value e s = fold-Expr (Option Term) (value_step s) e
