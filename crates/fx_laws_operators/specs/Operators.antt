-- The operators of expressions, each by the rows of its table (SPARQL 1.1 sections 17.2 and 17.3), in this project's profile.
use Rattle.std.specs.Prelude.{◌≡◌, ◌≢◌, ◌⊎◌, ◌+ℤ◌, ◌-ℤ◌, ◌*ℤ◌, neg_ℤ, ℤ, pos, ℕ, Bool, true, false, not, ◌&&◌, ◌||◌, int_le, int_lt, List, [], ◌∷◌, Option, Some, None, option_map, if◌then◌else◌}
use Rattle.std.specs.Ordering.{int_eq, is_lt, is_le}
use Rattle.std.specs.Str.{bytes_eq}
use Rattle.fx_terms.specs.Texts.{text_cmp}
use Rattle.fx_terms.specs.Terms.{form_of}
use Rattle.fx_terms.specs.declared.terms.Term.{Term}
use Rattle.fx_terms.specs.declared.terms.Term.TheVariants as term
use Rattle.fx_terms.specs.Literals.{LiteralParts}
use Rattle.fx_algebra.specs.Solutions.{Bindings}
use Rattle.fx_algebra.specs.Values.{boolean, integer, truth_of, value}
use Rattle.fx_algebra.specs.Worths.{truth, worth_of}
use Rattle.fx_algebra.specs.declared.expressions.Compare.{Compare}
use Rattle.fx_algebra.specs.declared.expressions.Compare.TheVariants as compare
use Rattle.fx_algebra.specs.declared.expressions.Sign.TheVariants.{Plus, Minus}
use Rattle.fx_algebra.specs.declared.expressions.Sign.{Sign}
use Rattle.fx_algebra.specs.declared.expressions.Expr.{Expr}
use Rattle.fx_algebra.specs.declared.expressions.Expr.TheVariants as expr
use Rattle.fx_algebra.specs.declared.worths.Worth.{Worth}
use Rattle.fx_algebra.specs.declared.worths.Worth.TheVariants as worth

-- ---- truth values: what || and && and ! give for true, false and the error (17.2)

abbrev pub T : Option Bool
T = Some true

abbrev pub F : Option Bool
F = Some false

abbrev pub E : Option Bool
E = None

-- what a || b is where the truths of a and b are these
abbrev pub Or : Option Bool → Option Bool → Option Bool → Type 0
Or p q r = (s : Bindings) (a b : Expr) → truth_of (value a s) ≡ p → truth_of (value b s) ≡ q → value (expr.Or (a ∷ b ∷ [])) s ≡ option_map boolean r

-- what a && b is
abbrev pub And : Option Bool → Option Bool → Option Bool → Type 0
And p q r = (s : Bindings) (a b : Expr) → truth_of (value a s) ≡ p → truth_of (value b s) ≡ q → value (expr.And (a ∷ b ∷ [])) s ≡ option_map boolean r

-- what !a is
abbrev pub Not : Option Bool → Option Bool → Type 0
Not p r = (s : Bindings) (a : Expr) → truth_of (value a s) ≡ p → value (expr.Not a) s ≡ option_map boolean r

pub record Logic : Type 0 where
  pub or_true_true : Or T T T
  pub or_true_false : Or T F T
  pub or_true_error : Or T E T
  pub or_false_true : Or F T T
  pub or_false_false : Or F F F
  pub or_false_error : Or F E E
  pub or_error_true : Or E T T
  pub or_error_false : Or E F E
  pub or_error_error : Or E E E
  pub and_true_true : And T T T
  pub and_true_false : And T F F
  pub and_true_error : And T E E
  pub and_false_true : And F T F
  pub and_false_false : And F F F
  pub and_false_error : And F E F
  pub and_error_true : And E T E
  pub and_error_false : And E F F
  pub and_error_error : And E E E
  pub not_true : Not T F
  pub not_false : Not F T
  pub not_error : Not E E
  -- a chain goes from the left
  pub or_chain : (s : Bindings) (a b c : Expr) (rest : List Expr) → value (expr.Or (a ∷ b ∷ c ∷ rest)) s ≡ value (expr.Or (expr.Or (a ∷ b ∷ []) ∷ c ∷ rest)) s
  pub and_chain : (s : Bindings) (a b c : Expr) (rest : List Expr) → value (expr.And (a ∷ b ∷ c ∷ rest)) s ≡ value (expr.And (expr.And (a ∷ b ∷ []) ∷ c ∷ rest)) s

-- ---- what a part may be

-- it is a literal that is an integer with a value, a truth value, or a string
abbrev pub IsInteger : Bindings → Expr → ℤ → Type 0
IsInteger s e z = (t : Term) × (value e s ≡ Some t) × (worth_of t ≡ worth.Integer z)

abbrev pub IsBoolean : Bindings → Expr → Bool → Type 0
IsBoolean s e b = (t : Term) × (value e s ≡ Some t) × (worth_of t ≡ worth.Boolean b)

abbrev pub IsString : Bindings → Expr → List ℕ → Type 0
IsString s e form = (t : Term) × (value e s ≡ Some t) × (worth_of t ≡ worth.Text) × (form_of t ≡ form)

-- two that are worth something of one kind
abbrev pub are_of_a_kind : Worth → Worth → Bool
are_of_a_kind (worth.Integer m) (worth.Integer n) = true
are_of_a_kind (worth.Boolean p) (worth.Boolean q) = true
are_of_a_kind worth.Text worth.Text = true
are_of_a_kind v w = false

-- ---- comparisons (17.3)

-- a comparison of two integers, of two truth values, of two strings
abbrev pub OfIntegers : Compare → (ℤ → ℤ → Bool) → Type 0
OfIntegers op test = (s : Bindings) (a b : Expr) (m n : ℤ) → IsInteger s a m → IsInteger s b n → value (expr.Compare op a b) s ≡ Some (boolean (test m n))

abbrev pub OfBooleans : Compare → (Bool → Bool → Bool) → Type 0
OfBooleans op test = (s : Bindings) (a b : Expr) (p q : Bool) → IsBoolean s a p → IsBoolean s b q → value (expr.Compare op a b) s ≡ Some (boolean (test p q))

abbrev pub OfStrings : Compare → (List ℕ → List ℕ → Bool) → Type 0
OfStrings op test = (s : Bindings) (a b : Expr) (x y : List ℕ) → IsString s a x → IsString s b y → value (expr.Compare op a b) s ≡ Some (boolean (test x y))

-- of any two terms
abbrev pub OfTerms : Compare → Term → Term → Option Bool → Type 0
OfTerms op t u r = (s : Bindings) (a b : Expr) → value a s ≡ Some t → value b s ≡ Some u → value (expr.Compare op a b) s ≡ option_map boolean r

pub record Equality : Type 0 where
  pub integers : OfIntegers compare.Equal int_eq
  pub booleans : OfBooleans compare.Equal (λ p q. (p && q) || (not p && not q))
  pub strings : OfStrings compare.Equal bytes_eq
  -- the same term, whatever it is; else two literals that aren't of a kind are the error, and an IRI is no other term
  pub same : (t : Term) → OfTerms compare.Equal t t T
  pub literals : (x y : LiteralParts) → x ≢ y → are_of_a_kind (worth_of (term.Literal x)) (worth_of (term.Literal y)) ≡ false → OfTerms compare.Equal (term.Literal x) (term.Literal y) E
  pub iris : (x y : List ℕ) → x ≢ y → OfTerms compare.Equal (term.Iri x) (term.Iri y) F
  pub iri_and_literal : (x : List ℕ) (y : LiteralParts) → OfTerms compare.Equal (term.Iri x) (term.Literal y) F
  pub literal_and_iri : (x : LiteralParts) (y : List ℕ) → OfTerms compare.Equal (term.Literal x) (term.Iri y) F
  -- a != b is !(a = b)
  pub unequal : (s : Bindings) (a b : Expr) → value (expr.Compare compare.NotEqual a b) s ≡ value (expr.Not (expr.Compare compare.Equal a b)) s

pub record Order : Type 0 where
  pub less_integers : OfIntegers compare.Less int_lt
  pub less_booleans : OfBooleans compare.Less (λ p q. not p && q)
  pub less_strings : OfStrings compare.Less (λ x y. is_lt (text_cmp x y))
  pub up_to_integers : OfIntegers compare.LessOrEqual int_le
  pub up_to_booleans : OfBooleans compare.LessOrEqual (λ p q. not p || q)
  pub up_to_strings : OfStrings compare.LessOrEqual (λ x y. is_le (text_cmp x y))
  -- a > b is b < a, and a >= b is b <= a
  pub greater : (s : Bindings) (a b : Expr) → value (expr.Compare compare.Greater a b) s ≡ value (expr.Compare compare.Less b a) s
  pub from : (s : Bindings) (a b : Expr) → value (expr.Compare compare.GreaterOrEqual a b) s ≡ value (expr.Compare compare.LessOrEqual b a) s
  -- what isn't of a kind has no order
  pub others_less : (t u : Term) → are_of_a_kind (worth_of t) (worth_of u) ≡ false → OfTerms compare.Less t u E
  pub others_up_to : (t u : Term) → are_of_a_kind (worth_of t) (worth_of u) ≡ false → OfTerms compare.LessOrEqual t u E

-- a part in error makes a comparison one
abbrev pub ErrorsStay : Type 0
ErrorsStay = (op : Compare) (s : Bindings) (a b : Expr) → (value a s ≡ None) ⊎ (value b s ≡ None) → value (expr.Compare op a b) s ≡ None

-- ---- sums and products (17.3)

-- the numbers of 64 bits with a sign
abbrev pub fits : ℤ → Bool
fits z = int_le (neg_ℤ (pos 9_223_372_036_854_775_808)) z && int_le z (pos 9_223_372_036_854_775_807)

-- a number as a literal of xsd:integer, or the error where it isn't one of these
abbrev pub number : ℤ → Option Term
number z = if fits z then Some (integer z) else None

abbrev pub plus : Expr → Expr → Expr
plus a b = expr.Sum a ((Plus, b) ∷ [])

abbrev pub less : Expr → Expr → Expr
less a b = expr.Sum a ((Minus, b) ∷ [])

abbrev pub times : Expr → Expr → Expr
times a b = expr.Product (a ∷ b ∷ [])

-- an operator on two integers
abbrev pub OnIntegers : (Expr → Expr → Expr) → (ℤ → ℤ → ℤ) → Type 0
OnIntegers op f = (s : Bindings) (a b : Expr) (m n : ℤ) → IsInteger s a m → IsInteger s b n → value (op a b) s ≡ number (f m n)

abbrev pub IsNoInteger : Bindings → Expr → Type 0
IsNoInteger s e = (z : ℤ) → IsInteger s e z → ⊥

-- it is the error on all else
abbrev pub OnOthers : (Expr → Expr → Expr) → Type 0
OnOthers op = (s : Bindings) (a b : Expr) → IsNoInteger s a ⊎ IsNoInteger s b → value (op a b) s ≡ None

abbrev pub OnInteger : (Expr → Expr) → (ℤ → ℤ) → Type 0
OnInteger op f = (s : Bindings) (a : Expr) (m : ℤ) → IsInteger s a m → value (op a) s ≡ number (f m)

abbrev pub OnOther : (Expr → Expr) → Type 0
OnOther op = (s : Bindings) (a : Expr) → IsNoInteger s a → value (op a) s ≡ None

pub record Arithmetic : Type 0 where
  pub plus_integers : OnIntegers plus (λ m n. m +ℤ n)
  pub less_integers : OnIntegers less (λ m n. m -ℤ n)
  pub times_integers : OnIntegers times (λ m n. m *ℤ n)
  pub negative_integer : OnInteger expr.Negative neg_ℤ
  pub positive_integer : OnInteger expr.Positive (λ m. m)
  pub plus_others : OnOthers plus
  pub less_others : OnOthers less
  pub times_others : OnOthers times
  pub negative_other : OnOther expr.Negative
  pub positive_other : OnOther expr.Positive
  -- a chain goes from the left
  pub sum_chain : (s : Bindings) (a : Expr) (p q : Sign × Expr) (rest : List (Sign × Expr)) → value (expr.Sum a (p ∷ q ∷ rest)) s ≡ value (expr.Sum (expr.Sum a (p ∷ [])) (q ∷ rest)) s
  pub product_chain : (s : Bindings) (a b c : Expr) (rest : List Expr) → value (expr.Product (a ∷ b ∷ c ∷ rest)) s ≡ value (expr.Product (expr.Product (a ∷ b ∷ []) ∷ c ∷ rest)) s

-- ---- what was made is read back

pub record Made : Type 0 where
  pub truths : (b : Bool) → truth (boolean b) ≡ Some b
  pub booleans : (b : Bool) → worth_of (boolean b) ≡ worth.Boolean b
  pub numbers : (z : ℤ) → fits z ≡ true → worth_of (integer z) ≡ worth.Integer z
  -- no integer has a value that isn't one of 64 bits
  pub values : (t : Term) (z : ℤ) → worth_of t ≡ worth.Integer z → fits z ≡ true
