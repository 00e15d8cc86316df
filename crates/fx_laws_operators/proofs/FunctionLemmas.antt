-- Lists, and the functions.
use Rattle.std.proofs.Common.{◌≡◌, ◌≢◌, ◌∙◌, sym, ap, refl, ℕ, ◌⊎◌, inl, inr, Bool, true, false, not, if◌then◌else◌, List, [], ◌∷◌, map, length, Option, Some, None, option_map, option_and_then, is_none, is_some}
use Rattle.std.specs.Prelude.{ℤ, pos}
use Rattle.std.specs.List.{list_any}
use Rattle.std.specs.Str.{chars}
use Rattle.fx_terms.specs.declared.terms.Term.{Term}
use Rattle.fx_terms.specs.declared.terms.Term.TheVariants as term
use Rattle.fx_algebra.proofs.ForcedLemmas.{same_from, same_itself}
use Rattle.fx_algebra.specs.Solutions.{Bindings, same_term}
use Rattle.fx_algebra.specs.Values.{all_of, any_of, bound, boolean, call, chosen_by, compared, equal, first_of, integer, integer_by, integer_in, is_false, is_true, language_matches, negated_by, of_two, on_both, string, truth_of, value}
use Rattle.fx_algebra.specs.Words.{begins, ends, has_part, string_form, worded_form}
use Rattle.fx_algebra.specs.Worths.{if_in_range, worth_of}
use Rattle.fx_algebra.specs.declared.expressions.Compare.TheVariants as compare
use Rattle.fx_algebra.specs.declared.expressions.Function.{Function}
use Rattle.fx_algebra.specs.declared.expressions.Function.TheVariants as function
use Rattle.fx_algebra.specs.declared.expressions.Expr.{Expr}
use Rattle.fx_algebra.specs.declared.expressions.Expr.TheVariants as expr
use Rattle.fx_algebra.specs.declared.worths.Worth.{Worth}
use Rattle.fx_algebra.specs.declared.worths.Worth.TheVariants as worth
use Rattle.fx_laws_operators.specs.Functions.{Forms, Functions, Lists, Of, OfTwo, by_forms, by_range, equal_to, if_, takes_one, takes_two, unequal_to}
use Rattle.fx_laws_operators.specs.Operators.{number}
use Rattle.fx_laws_operators.proofs.Equations.{value_among, value_and, value_call, value_compare, value_constant, value_or, value_variable, values}
use Rattle.fx_laws_operators.proofs.LogicLemmas.{truths_back}
use Rattle.fx_laws_operators.proofs.WorthLemmas.{number_is}

-- ---- lists

abbrev compared_with : Option Term → List (Option Term) → List (Option Bool)
compared_with x ys = map (on_both equal x) ys

equal_truth : (a b : Expr) (s : Bindings) → truth_of (value (equal_to a b) s) ≡ on_both equal (value a s) (value b s)
equal_truth a b s = ap truth_of (value_compare compare.Equal a b s) ∙ truths_back (on_both (compared compare.Equal) (value a s) (value b s))

unequal_truth : (a b : Expr) (s : Bindings) → truth_of (value (unequal_to a b) s) ≡ option_map not (on_both equal (value a s) (value b s))
unequal_truth a b s = ap truth_of (value_compare compare.NotEqual a b s) ∙ (truths_back (on_both (compared compare.NotEqual) (value a s) (value b s)) ∙ by (value a s) (value b s))
  where
    by : (x y : Option Term) → on_both (compared compare.NotEqual) x y ≡ option_map not (on_both equal x y)
    by (Some t) (Some u) = refl
    by (Some t) None = refl
    by None y = refl

equal_truths : (a : Expr) (list : List Expr) (s : Bindings) → map truth_of (values (map (equal_to a) list) s) ≡ compared_with (value a s) (values list s)
equal_truths a [] s = refl
equal_truths a (b ∷ bs) s = λ i. equal_truth a b s i ∷ equal_truths a bs s i

unequal_truths : (a : Expr) (list : List Expr) (s : Bindings) → map truth_of (values (map (unequal_to a) list) s) ≡ map (option_map not) (compared_with (value a s) (values list s))
unequal_truths a [] s = refl
unequal_truths a (b ∷ bs) s = λ i. unequal_truth a b s i ∷ unequal_truths a bs s i

as_it_is : (o : Option Bool) → option_map (negated_by false) o ≡ o
as_it_is None = refl
as_it_is (Some b) = refl

-- none of some is all of their opposites
no_true : (os : List (Option Bool)) → list_any is_false (map (option_map not) os) ≡ list_any is_true os
no_true [] = refl
no_true (None ∷ os) = no_true os
no_true (Some true ∷ os) = refl
no_true (Some false ∷ os) = no_true os

no_error : (os : List (Option Bool)) → list_any is_none (map (option_map not) os) ≡ list_any is_none os
no_error [] = refl
no_error (None ∷ os) = refl
no_error (Some b ∷ os) = no_error os

opposites : (os : List (Option Bool)) → option_map (negated_by true) (any_of os) ≡ all_of (map (option_map not) os)
opposites os =
    by (list_any is_true os) (list_any is_none os)
    ∙ (ap (λ (b : Bool). if b then Some false else (if list_any is_none os then None else Some true)) (sym (no_true os))
    ∙ ap (λ (b : Bool). if list_any is_false (map (option_map not) os) then Some false else (if b then None else Some true)) (sym (no_error os)))
  where
    by : (b c : Bool) → option_map (negated_by true) (if b then Some true else (if c then None else Some false)) ≡ (if b then Some false else (if c then None else Some true))
    by true c = refl
    by false true = refl
    by false false = refl

is_in : (s : Bindings) (a b : Expr) (list : List Expr) → value (expr.Among false a (b ∷ list)) s ≡ value (expr.Or (map (equal_to a) (b ∷ list))) s
is_in s a b list =
    value_among false a (b ∷ list) s
    ∙ ap (option_map boolean) (as_it_is (any_of (compared_with (value a s) (values (b ∷ list) s))) ∙ ap any_of (sym (equal_truths a (b ∷ list) s)))
    ∙ sym (value_or (map (equal_to a) (b ∷ list)) s)

is_not_in : (s : Bindings) (a b : Expr) (list : List Expr) → value (expr.Among true a (b ∷ list)) s ≡ value (expr.And (map (unequal_to a) (b ∷ list))) s
is_not_in s a b list =
    value_among true a (b ∷ list) s
    ∙ ap (option_map boolean) (opposites (compared_with (value a s) (values (b ∷ list) s)) ∙ ap all_of (sym (unequal_truths a (b ∷ list) s)))
    ∙ sym (value_and (map (unequal_to a) (b ∷ list)) s)

pub lists : Lists
lists = record { is_in = is_in; is_not_in = is_not_in; in_none = λ s a. value_among false a [] s; not_in_none = λ s a. value_among true a [] s }

-- ---- forms

if_is : (s : Bindings) (a b c : Expr) (o : Option Bool) → truth_of (value a s) ≡ o → value (if_ a b c) s ≡ chosen_by o (value b s) (value c s)
if_is s a b c o h = value_call function.If (a ∷ b ∷ c ∷ []) s ∙ ap (λ (v : Option Bool). chosen_by v (value b s) (value c s)) h

pub forms_of : Forms
forms_of = record {
  variable = λ s name. value_variable name s;
  constant = λ s t. value_constant t s;
  bound = λ s name. value_call function.Bound (expr.Variable name ∷ []) s ∙ ap (λ (v : Option Term). bound (v ∷ [])) (value_variable name s);
  if_true = λ s a b c h. if_is s a b c (Some true) h;
  if_false = λ s a b c h. if_is s a b c (Some false) h;
  if_error = λ s a b c h. if_is s a b c None h;
  coalesce_none = λ s. value_call function.Coalesce [] s;
  coalesce_first = λ s a t rest h. value_call function.Coalesce (a ∷ rest) s ∙ ap (λ (v : Option Term). first_of (v ∷ values rest s)) h;
  coalesce_error = λ s a rest h. value_call function.Coalesce (a ∷ rest) s ∙ ap (λ (v : Option Term). first_of (v ∷ values rest s)) h ∙ sym (value_call function.Coalesce rest s);
}

-- ---- functions

of_a_term : (f : Function) (t : Term) (r : Option Term) → call f (Some t ∷ []) ≡ r → Of f t r
of_a_term f t r e s a h = value_call f (a ∷ []) s ∙ ap (λ (v : Option Term). call f (v ∷ [])) h ∙ e

of_two_terms : (f : Function) (t u : Term) (r : Option Bool) → call f (Some t ∷ Some u ∷ []) ≡ option_map boolean r → OfTwo f t u r
of_two_terms f t u r e s a b h k =
    value_call f (a ∷ b ∷ []) s ∙ ap (λ (v : Option Term). call f (v ∷ value b s ∷ [])) h ∙ (ap (λ (v : Option Term). call f (Some t ∷ v ∷ [])) k ∙ e)

length_of_text : (t : Term) (form : List ℕ) → worded_form t ≡ Some form → Of function.StrLen t (number (pos (length (chars form))))
length_of_text t form e =
    of_a_term function.StrLen t (number (pos (length (chars form))))
    (ap (λ (o : Option (List ℕ)). option_map integer (option_and_then (λ v. if_in_range (pos (length (chars v)))) o)) e ∙ number_is (pos (length (chars form))))

length_of_other : (t : Term) → worded_form t ≡ None → Of function.StrLen t None
length_of_other t e = of_a_term function.StrLen t None (ap (λ (o : Option (List ℕ)). option_map integer (option_and_then (λ v. if_in_range (pos (length (chars v)))) o)) e)

numeric : (t : Term) (z : ℤ) → worth_of t ≡ worth.Integer z → call function.IsNumeric (Some t ∷ []) ≡ Some (boolean true)
unfolding integer_in
numeric t z e = ap (λ (w : Worth). Some (boolean (is_some (integer_by w)))) e

not_numeric : (t : Term) → ((z : ℤ) → worth_of t ≢ worth.Integer z) → call function.IsNumeric (Some t ∷ []) ≡ Some (boolean false)
unfolding integer_in
not_numeric t h = by (worth_of t) refl
  where
    by : (w : Worth) → worth_of t ≡ w → Some (boolean (is_some (integer_by w))) ≡ Some (boolean false)
    by (worth.Integer z) e = absurd (h z e)
    by (worth.Boolean b) e = refl
    by worth.Text e = refl
    by worth.Opaque e = refl

other_term : (t u : Term) → t ≢ u → same_term t u ≡ false
other_term t u h = by (same_term t u) refl
  where
    by : (b : Bool) → same_term t u ≡ b → b ≡ false
    by true e = absurd (h (same_from t u e))
    by false e = refl

ranges : (x y : Option (List ℕ)) → language_matches x y ≡ by_range x y
ranges (Some tag) (Some range) = refl
ranges (Some tag) None = refl
ranges None (Some range) = refl
ranges None None = refl

error_of_one : (f : Function) (s : Bindings) (a : Expr) → takes_one f ≡ true → value a s ≡ None → value (expr.Call f (a ∷ [])) s ≡ None
error_of_one f s a t h = value_call f (a ∷ []) s ∙ (ap (λ (v : Option Term). call f (v ∷ [])) h ∙ by f t)
  where
    by : (g : Function) → takes_one g ≡ true → call g (None ∷ []) ≡ None
    by function.Str e = refl
    by function.Lang e = refl
    by function.Datatype e = refl
    by function.StrLen e = refl
    by function.IsIri e = refl
    by function.IsLiteral e = refl
    by function.IsBlank e = refl
    by function.IsNumeric e = refl
    by other e = absurd (cc)

error_of_two : (f : Function) (s : Bindings) (a b : Expr) → takes_two f ≡ true → (value a s ≡ None) ⊎ (value b s ≡ None) → value (expr.Call f (a ∷ b ∷ [])) s ≡ None
error_of_two f s a b t h = value_call f (a ∷ b ∷ []) s ∙ (two f t ∙ by h)
  where
    two : (g : Function) → takes_two g ≡ true → call g (value a s ∷ value b s ∷ []) ≡ option_map boolean (on_both (of_two g) (value a s) (value b s))
    two function.LangMatches e = refl
    two function.SameTerm e = refl
    two function.Contains e = refl
    two function.StrStarts e = refl
    two function.StrEnds e = refl
    two other e = absurd (cc)

    right : (x : Option Term) → option_map boolean (on_both (of_two f) x None) ≡ None
    right (Some t) = refl
    right None = refl

    by : (value a s ≡ None) ⊎ (value b s ≡ None) → option_map boolean (on_both (of_two f) (value a s) (value b s)) ≡ None
    by (inl k) = ap (λ (v : Option Term). option_map boolean (on_both (of_two f) v (value b s))) k
    by (inr k) = ap (λ (v : Option Term). option_map boolean (on_both (of_two f) (value a s) v)) k ∙ right (value a s)

pub functions : Functions
functions = record {
  str_iri = λ x. of_a_term function.Str (term.Iri x) (Some (string x)) refl;
  str_literal = λ x. of_a_term function.Str (term.Literal x) (Some (string x.form)) refl;
  lang_iri = λ x. of_a_term function.Lang (term.Iri x) None refl;
  lang_literal = λ x. of_a_term function.Lang (term.Literal x) (Some (string x.tag)) refl;
  datatype_iri = λ x. of_a_term function.Datatype (term.Iri x) None refl;
  datatype_literal = λ x. of_a_term function.Datatype (term.Literal x) (Some (term.Iri x.datatype)) refl;
  length_of_text = length_of_text;
  length_of_other = length_of_other;
  is_iri_iri = λ x. of_a_term function.IsIri (term.Iri x) (Some (boolean true)) refl;
  is_iri_literal = λ x. of_a_term function.IsIri (term.Literal x) (Some (boolean false)) refl;
  is_literal_iri = λ x. of_a_term function.IsLiteral (term.Iri x) (Some (boolean false)) refl;
  is_literal_literal = λ x. of_a_term function.IsLiteral (term.Literal x) (Some (boolean true)) refl;
  is_blank = λ t. of_a_term function.IsBlank t (Some (boolean false)) refl;
  is_numeric_integer = λ t z e. of_a_term function.IsNumeric t (Some (boolean true)) (numeric t z e);
  is_numeric_other = λ t h. of_a_term function.IsNumeric t (Some (boolean false)) (not_numeric t h);
  same_term = λ t. of_two_terms function.SameTerm t t (Some true) (ap (λ (b : Bool). Some (boolean b)) (same_itself t t refl));
  other_term = λ t u h. of_two_terms function.SameTerm t u (Some false) (ap (λ (b : Bool). Some (boolean b)) (other_term t u h));
  lang_matches = λ t u. of_two_terms function.LangMatches t u (by_range (string_form t) (string_form u)) (ap (option_map boolean) (ranges (string_form t) (string_form u)));
  contains = λ t u. of_two_terms function.Contains t u (by_forms has_part t u) refl;
  str_starts = λ t u. of_two_terms function.StrStarts t u (by_forms begins t u) refl;
  str_ends = λ t u. of_two_terms function.StrEnds t u (by_forms ends t u) refl;
  error_of_one = error_of_one;
  error_of_two = error_of_two;
}
