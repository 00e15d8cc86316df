-- IN, NOT IN and the functions of expressions, each by the rows of its table (SPARQL 1.1 section 17.4), in this project's profile.
use Rattle.std.specs.Prelude.{◌≡◌, ◌≢◌, ◌⊎◌, ℤ, pos, ℕ, Bool, true, false, List, [], ◌∷◌, map, length, Option, Some, None, option_map, is_some}
use Rattle.std.specs.Str.{chars}
use Rattle.fx_terms.specs.declared.terms.Term.{Term}
use Rattle.fx_terms.specs.declared.terms.Term.TheVariants as term
use Rattle.fx_terms.specs.Literals.{LiteralParts}
use Rattle.fx_algebra.specs.Solutions.{Bindings, term_of}
use Rattle.fx_algebra.specs.Values.{boolean, string, truth_of, value}
use Rattle.fx_algebra.specs.Words.{begins, ends, forms, has_part, in_language, string_form, worded_form}
use Rattle.fx_algebra.specs.Worths.{worth_of}
use Rattle.fx_algebra.specs.declared.expressions.Compare.TheVariants as compare
use Rattle.fx_algebra.specs.declared.expressions.Function.{Function}
use Rattle.fx_algebra.specs.declared.expressions.Function.TheVariants as function
use Rattle.fx_algebra.specs.declared.expressions.Expr.{Expr}
use Rattle.fx_algebra.specs.declared.expressions.Expr.TheVariants as expr
use Rattle.fx_algebra.specs.declared.worths.Worth.TheVariants as worth
use Rattle.fx_laws_operators.specs.Operators.{E, F, T, number}

-- ---- IN and NOT IN (17.4.1.9 and 17.4.1.10)

abbrev pub equal_to : Expr → Expr → Expr
equal_to a b = expr.Compare compare.Equal a b

abbrev pub unequal_to : Expr → Expr → Expr
unequal_to a b = expr.Compare compare.NotEqual a b

pub record Lists : Type 0 where
  -- a IN (b, .., c) is (a = b) || .. || (a = c), and a NOT IN (b, .., c) is (a != b) && .. && (a != c)
  pub is_in : (s : Bindings) (a b : Expr) (list : List Expr) → value (expr.Among false a (b ∷ list)) s ≡ value (expr.Or (map (equal_to a) (b ∷ list))) s
  pub is_not_in : (s : Bindings) (a b : Expr) (list : List Expr) → value (expr.Among true a (b ∷ list)) s ≡ value (expr.And (map (unequal_to a) (b ∷ list))) s
  -- nothing is in an empty list
  pub in_none : (s : Bindings) (a : Expr) → value (expr.Among false a []) s ≡ Some (boolean false)
  pub not_in_none : (s : Bindings) (a : Expr) → value (expr.Among true a []) s ≡ Some (boolean true)

-- ---- functions that don't need all of their arguments (17.4.1)

abbrev pub if_ : Expr → Expr → Expr → Expr
if_ a b c = expr.Call function.If (a ∷ b ∷ c ∷ [])

pub record Forms : Type 0 where
  pub variable : (s : Bindings) (name : List ℕ) → value (expr.Variable name) s ≡ term_of s name
  pub constant : (s : Bindings) (t : Term) → value (expr.Constant t) s ≡ Some t
  pub bound : (s : Bindings) (name : List ℕ) → value (expr.Call function.Bound (expr.Variable name ∷ [])) s ≡ Some (boolean (is_some (term_of s name)))
  pub if_true : (s : Bindings) (a b c : Expr) → truth_of (value a s) ≡ T → value (if_ a b c) s ≡ value b s
  pub if_false : (s : Bindings) (a b c : Expr) → truth_of (value a s) ≡ F → value (if_ a b c) s ≡ value c s
  pub if_error : (s : Bindings) (a b c : Expr) → truth_of (value a s) ≡ E → value (if_ a b c) s ≡ None
  pub coalesce_none : (s : Bindings) → value (expr.Call function.Coalesce []) s ≡ None
  pub coalesce_first : (s : Bindings) (a : Expr) (t : Term) (rest : List Expr) → value a s ≡ Some t → value (expr.Call function.Coalesce (a ∷ rest)) s ≡ Some t
  pub coalesce_error : (s : Bindings) (a : Expr) (rest : List Expr) → value a s ≡ None → value (expr.Call function.Coalesce (a ∷ rest)) s ≡ value (expr.Call function.Coalesce rest) s

-- ---- functions of terms and texts (17.4.2 and 17.4.3)

-- a function of a term
abbrev pub Of : Function → Term → Option Term → Type 0
Of f t r = (s : Bindings) (a : Expr) → value a s ≡ Some t → value (expr.Call f (a ∷ [])) s ≡ r

-- those of one argument
abbrev pub takes_one : Function → Bool
takes_one function.Str = true
takes_one function.Lang = true
takes_one function.Datatype = true
takes_one function.StrLen = true
takes_one function.IsIri = true
takes_one function.IsLiteral = true
takes_one function.IsBlank = true
takes_one function.IsNumeric = true
takes_one f = false

-- those of two arguments
abbrev pub takes_two : Function → Bool
takes_two function.LangMatches = true
takes_two function.SameTerm = true
takes_two function.Contains = true
takes_two function.StrStarts = true
takes_two function.StrEnds = true
takes_two f = false

-- a function of two terms
abbrev pub OfTwo : Function → Term → Term → Option Bool → Type 0
OfTwo f t u r = (s : Bindings) (a b : Expr) → value a s ≡ Some t → value b s ≡ Some u → value (expr.Call f (a ∷ b ∷ [])) s ≡ option_map boolean r

-- the forms of two texts that go together, by a test
abbrev pub by_forms : (List ℕ → List ℕ → Bool) → Term → Term → Option Bool
by_forms test t u = option_map (λ f. test f.0 f.1) (forms t u)

-- whether a tag is within a range, where both are strings
abbrev pub by_range : Option (List ℕ) → Option (List ℕ) → Option Bool
by_range (Some tag) (Some range) = Some (in_language tag range)
by_range x y = None

pub record Functions : Type 0 where
  pub str_iri : (x : List ℕ) → Of function.Str (term.Iri x) (Some (string x))
  pub str_literal : (x : LiteralParts) → Of function.Str (term.Literal x) (Some (string x.form))
  pub lang_iri : (x : List ℕ) → Of function.Lang (term.Iri x) None
  pub lang_literal : (x : LiteralParts) → Of function.Lang (term.Literal x) (Some (string x.tag))
  pub datatype_iri : (x : List ℕ) → Of function.Datatype (term.Iri x) None
  pub datatype_literal : (x : LiteralParts) → Of function.Datatype (term.Literal x) (Some (term.Iri x.datatype))
  pub length_of_text : (t : Term) (form : List ℕ) → worded_form t ≡ Some form → Of function.StrLen t (number (pos (length (chars form))))
  pub length_of_other : (t : Term) → worded_form t ≡ None → Of function.StrLen t None
  pub is_iri_iri : (x : List ℕ) → Of function.IsIri (term.Iri x) (Some (boolean true))
  pub is_iri_literal : (x : LiteralParts) → Of function.IsIri (term.Literal x) (Some (boolean false))
  pub is_literal_iri : (x : List ℕ) → Of function.IsLiteral (term.Iri x) (Some (boolean false))
  pub is_literal_literal : (x : LiteralParts) → Of function.IsLiteral (term.Literal x) (Some (boolean true))
  pub is_blank : (t : Term) → Of function.IsBlank t (Some (boolean false))
  pub is_numeric_integer : (t : Term) (z : ℤ) → worth_of t ≡ worth.Integer z → Of function.IsNumeric t (Some (boolean true))
  pub is_numeric_other : (t : Term) → ((z : ℤ) → worth_of t ≢ worth.Integer z) → Of function.IsNumeric t (Some (boolean false))
  pub same_term : (t : Term) → OfTwo function.SameTerm t t T
  pub other_term : (t u : Term) → t ≢ u → OfTwo function.SameTerm t u F
  pub lang_matches : (t u : Term) → OfTwo function.LangMatches t u (by_range (string_form t) (string_form u))
  pub contains : (t u : Term) → OfTwo function.Contains t u (by_forms has_part t u)
  pub str_starts : (t u : Term) → OfTwo function.StrStarts t u (by_forms begins t u)
  pub str_ends : (t u : Term) → OfTwo function.StrEnds t u (by_forms ends t u)
  -- an argument in error makes the call one
  pub error_of_one : (f : Function) (s : Bindings) (a : Expr) → takes_one f ≡ true → value a s ≡ None → value (expr.Call f (a ∷ [])) s ≡ None
  pub error_of_two : (f : Function) (s : Bindings) (a b : Expr) → takes_two f ≡ true → (value a s ≡ None) ⊎ (value b s ≡ None) → value (expr.Call f (a ∷ b ∷ [])) s ≡ None
