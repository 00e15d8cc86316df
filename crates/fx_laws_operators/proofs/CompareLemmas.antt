-- Comparisons.
use Rattle.std.proofs.Common.{◌≡◌, ◌≢◌, ◌∙◌, sym, ap, refl, ℕ, inl, inr, Bool, true, false, not, ◌&&◌, ◌||◌, cond, if◌then◌else◌, List, Option, Some, None, option_map, arith}
use Rattle.std.specs.Prelude.{ℤ, pos, negsuc, int_le, int_lt, nat_le, nat_lt}
use Rattle.std.specs.declared.cmp.Ordering.{Ordering}
use Rattle.std.specs.declared.cmp.Ordering.TheVariants.{Less, Equal, Greater}
use Rattle.std.specs.Ordering.{bool_cmp, int_cmp, is_eq, is_ge, is_gt, is_le, is_lt, ordering_reverse}
use Rattle.std.specs.Str.{bytes_eq}
use Rattle.std.proofs.lemmas.Bool.Decides.{Decides-int_eq, nat_tests}
use Rattle.std.proofs.lemmas.Cmp.{int_cmp_total, tied_itself}
use Rattle.std.proofs.lemmas.Map.Text.{is_eq-slice_cmp}
use Rattle.fx_terms.specs.Texts.{text_cmp, texts_total}
use Rattle.fx_terms.specs.Terms.{form_of}
use Rattle.fx_terms.specs.Literals.{LiteralParts}
use Rattle.fx_terms.specs.declared.terms.Term.{Term}
use Rattle.fx_terms.specs.declared.terms.Term.TheVariants as term
use Rattle.fx_algebra.proofs.ForcedLemmas.{same_from, same_itself}
use Rattle.fx_algebra.specs.Solutions.{Bindings, same_term}
use Rattle.fx_algebra.specs.Values.{boolean, compared, equal, equal_by, on_both, order, order_by, same_terms, truth_of, value}
use Rattle.fx_algebra.specs.Worths.{worth_of}
use Rattle.fx_algebra.specs.declared.expressions.Compare.{Compare}
use Rattle.fx_algebra.specs.declared.expressions.Compare.TheVariants as compare
use Rattle.fx_algebra.specs.declared.expressions.Expr.{Expr}
use Rattle.fx_algebra.specs.declared.expressions.Expr.TheVariants as expr
use Rattle.fx_algebra.specs.declared.worths.Worth.{Worth}
use Rattle.fx_algebra.specs.declared.worths.Worth.TheVariants as worth
use Rattle.fx_laws_operators.specs.Operators.{Equality, ErrorsStay, OfBooleans, OfIntegers, OfStrings, OfTerms, Order, are_of_a_kind}
use Rattle.fx_laws_operators.proofs.Equations.{value_compare, value_not}
use Rattle.fx_laws_operators.proofs.LogicLemmas.{truths_back}

-- ---- of two terms

two_terms : (op : Compare) (s : Bindings) (a b : Expr) (t u : Term) → value a s ≡ Some t → value b s ≡ Some u → value (expr.Compare op a b) s ≡ option_map boolean (compared op t u)
two_terms op s a b t u h k =
    value_compare op a b s
    ∙ ap (λ (o : Option Term). option_map boolean (on_both (compared op) o (value b s))) h
    ∙ ap (λ (o : Option Term). option_map boolean (on_both (compared op) (Some t) o)) k

of_terms : (op : Compare) (t u : Term) (r : Option Bool) → compared op t u ≡ r → OfTerms op t u r
of_terms op t u r e s a b h k = two_terms op s a b t u h k ∙ ap (option_map boolean) e

by_worths : {X : Type 0} (f : Worth → Worth → X) (t u : Term) (v w : Worth) → worth_of t ≡ v → worth_of u ≡ w → f (worth_of t) (worth_of u) ≡ f v w
by_worths f t u v w h k = ap (λ x. f x (worth_of u)) h ∙ ap (f v) k

-- ---- equality

equal_worths : (t u : Term) (v w : Worth) → worth_of t ≡ v → worth_of u ≡ w → equal t u ≡ equal_by v w t u
unfolding equal
equal_worths t u v w h k = by_worths (λ x y. equal_by x y t u) t u v w h k

booleans_equal : (p q : Bool) → is_eq (bool_cmp p q) ≡ ((p && q) || (not p && not q))
booleans_equal true true = refl
booleans_equal true false = refl
booleans_equal false true = refl
booleans_equal false false = refl

text_itself : (x : List ℕ) → bytes_eq x x ≡ true
text_itself x = sym (is_eq-slice_cmp x x) ∙ ap is_eq (tied_itself texts_total x)

boolean_itself : (b : Bool) → is_eq (bool_cmp b b) ≡ true
boolean_itself true = refl
boolean_itself false = refl

term_itself : (t : Term) → same_terms t t ≡ Some true
term_itself (term.Iri a) = ap Some (same_itself (term.Iri a) (term.Iri a) refl)
term_itself (term.Literal a) = ap (λ (b : Bool). if b then Some true else None) (same_itself (term.Literal a) (term.Literal a) refl)

equal_itself : (t : Term) → equal t t ≡ Some true
unfolding equal
equal_itself t = by (worth_of t)
  where
    by : (w : Worth) → equal_by w w t t ≡ Some true
    by (worth.Integer m) = ap Some ((Decides-int_eq m m).1 refl)
    by (worth.Boolean b) = ap Some (boolean_itself b)
    by worth.Text = ap Some (text_itself (form_of t))
    by worth.Opaque = term_itself t

apart : (v w : Worth) (t u : Term) → are_of_a_kind v w ≡ false → equal_by v w t u ≡ same_terms t u
apart (worth.Integer m) (worth.Integer n) t u e = cc
apart (worth.Integer m) (worth.Boolean q) t u e = refl
apart (worth.Integer m) worth.Text t u e = refl
apart (worth.Integer m) worth.Opaque t u e = refl
apart (worth.Boolean p) (worth.Integer n) t u e = refl
apart (worth.Boolean p) (worth.Boolean q) t u e = cc
apart (worth.Boolean p) worth.Text t u e = refl
apart (worth.Boolean p) worth.Opaque t u e = refl
apart worth.Text (worth.Integer n) t u e = refl
apart worth.Text (worth.Boolean q) t u e = refl
apart worth.Text worth.Text t u e = cc
apart worth.Text worth.Opaque t u e = refl
apart worth.Opaque (worth.Integer n) t u e = refl
apart worth.Opaque (worth.Boolean q) t u e = refl
apart worth.Opaque worth.Text t u e = refl
apart worth.Opaque worth.Opaque t u e = refl

equal_apart : (t u : Term) → are_of_a_kind (worth_of t) (worth_of u) ≡ false → equal t u ≡ same_terms t u
unfolding equal
equal_apart t u e = apart (worth_of t) (worth_of u) t u e

others : (t u : Term) → t ≢ u → same_term t u ≡ false
others t u h = by (same_term t u) refl
  where
    by : (b : Bool) → same_term t u ≡ b → b ≡ false
    by true e = absurd (h (same_from t u e))
    by false e = refl

literals_apart : (x y : LiteralParts) → x ≢ y → same_terms (term.Literal x) (term.Literal y) ≡ None
literals_apart x y h = ap (λ (b : Bool). if b then Some true else None) (others (term.Literal x) (term.Literal y) (λ e. h (inside e)))
  where
    inside : term.Literal x ≡ term.Literal y → x ≡ y
    inside e = cc

opaque_left : (w : Worth) → are_of_a_kind worth.Opaque w ≡ false
opaque_left (worth.Integer n) = refl
opaque_left (worth.Boolean b) = refl
opaque_left worth.Text = refl
opaque_left worth.Opaque = refl

opaque_right : (w : Worth) → are_of_a_kind w worth.Opaque ≡ false
opaque_right (worth.Integer n) = refl
opaque_right (worth.Boolean b) = refl
opaque_right worth.Text = refl
opaque_right worth.Opaque = refl

iri_left : (x : List ℕ) (u : Term) → equal (term.Iri x) u ≡ same_terms (term.Iri x) u
unfolding worth_of
iri_left x u = equal_apart (term.Iri x) u (opaque_left (worth_of u))

iri_right : (t : Term) (y : List ℕ) → equal t (term.Iri y) ≡ same_terms t (term.Iri y)
unfolding worth_of
iri_right t y = equal_apart t (term.Iri y) (opaque_right (worth_of t))

iris_apart : (x y : List ℕ) → x ≢ y → same_terms (term.Iri x) (term.Iri y) ≡ Some false
iris_apart x y h = ap Some (others (term.Iri x) (term.Iri y) (λ e. h (inside e)))
  where
    inside : term.Iri x ≡ term.Iri y → x ≡ y
    inside e = cc

kinds_apart : (x : List ℕ) (y : LiteralParts) → same_terms (term.Iri x) (term.Literal y) ≡ Some false
kinds_apart x y = ap Some (others (term.Iri x) (term.Literal y) (λ e. no e))
  where
    no : term.Iri x ≡ term.Literal y → ⊥
    no e = absurd (cc)

unequal : (s : Bindings) (a b : Expr) → value (expr.Compare compare.NotEqual a b) s ≡ value (expr.Not (expr.Compare compare.Equal a b)) s
unequal s a b =
    value_compare compare.NotEqual a b s ∙ by (value a s) (value b s)
    ∙ sym (value_not (expr.Compare compare.Equal a b) s
    ∙ ap (option_map (λ b. boolean (not b))) (ap truth_of (value_compare compare.Equal a b s) ∙ truths_back (on_both (compared compare.Equal) (value a s) (value b s))))
  where
    turned : (o : Option Bool) → option_map boolean (option_map not o) ≡ option_map (λ b. boolean (not b)) o
    turned None = refl
    turned (Some c) = refl

    by : (x y : Option Term) → option_map boolean (on_both (compared compare.NotEqual) x y) ≡ option_map (λ b. boolean (not b)) (on_both (compared compare.Equal) x y)
    by (Some t) (Some u) = turned (equal t u)
    by (Some t) None = refl
    by None y = refl

pub equality : Equality
equality = record {
  integers = λ s a b m n h k. two_terms compare.Equal s a b h.0 k.0 h.1 k.1 ∙ ap (option_map boolean) (equal_worths h.0 k.0 (worth.Integer m) (worth.Integer n) h.2 k.2);
  booleans = λ s a b p q h k.
      two_terms compare.Equal s a b h.0 k.0 h.1 k.1
      ∙ ap (option_map boolean) (equal_worths h.0 k.0 (worth.Boolean p) (worth.Boolean q) h.2 k.2 ∙ ap Some (booleans_equal p q));
  strings = λ s a b x y h k.
      two_terms compare.Equal s a b h.0 k.0 h.1 k.1
      ∙ ap (option_map boolean)
      (equal_worths h.0 k.0 worth.Text worth.Text h.2 k.2
      ∙ (ap (λ (v : List ℕ). Some (bytes_eq v (form_of k.0))) h.3 ∙ ap (λ (v : List ℕ). Some (bytes_eq x v)) k.3));
  same = λ t. of_terms compare.Equal t t (Some true) (equal_itself t);
  literals = λ x y d e. of_terms compare.Equal (term.Literal x) (term.Literal y) None (equal_apart (term.Literal x) (term.Literal y) e ∙ literals_apart x y d);
  iris = λ x y d. of_terms compare.Equal (term.Iri x) (term.Iri y) (Some false) (iri_left x (term.Iri y) ∙ iris_apart x y d);
  iri_and_literal = λ x y. of_terms compare.Equal (term.Iri x) (term.Literal y) (Some false) (iri_left x (term.Literal y) ∙ kinds_apart x y);
  literal_and_iri = λ x y. of_terms compare.Equal (term.Literal x) (term.Iri y) (Some false) (iri_right (term.Literal x) y);
  unequal = unequal;
}

-- ---- order

order_worths : (t u : Term) (v w : Worth) → worth_of t ≡ v → worth_of u ≡ w → order t u ≡ order_by v w t u
unfolding order
order_worths t u v w h k = by_worths (λ x y. order_by x y t u) t u v w h k

less_integers : (m n : ℤ) → is_lt (int_cmp m n) ≡ int_lt m n
less_integers m n = by (int_lt m n) (int_lt n m)
  where
    by : (b c : Bool) → is_lt (cond b Less (cond c Greater Equal)) ≡ b
    by true c = refl
    by false true = refl
    by false false = refl

up_to : (a b : ℕ) → is_le (cond (nat_lt a b) Less (cond (nat_lt b a) Greater Equal)) ≡ nat_le a b
up_to a b = by (nat_lt a b) refl (nat_lt b a) refl
  where
    below : nat_lt a b ≡ true → true ≡ nat_le a b
    below e = grind (arith, nat_tests)

    above : nat_lt b a ≡ true → false ≡ nat_le a b
    above e = grind (arith, nat_tests)

    same : nat_lt b a ≡ false → true ≡ nat_le a b
    same e = grind (arith, nat_tests)

    by : (c : Bool) → nat_lt a b ≡ c → (d : Bool) → nat_lt b a ≡ d → is_le (cond c Less (cond d Greater Equal)) ≡ nat_le a b
    by true e d f = below e
    by false e true f = above f
    by false e false f = same f

up_to_integers : (m n : ℤ) → is_le (int_cmp m n) ≡ int_le m n
up_to_integers (pos a) (pos b) = up_to a b
up_to_integers (pos a) (negsuc b) = refl
up_to_integers (negsuc a) (pos b) = refl
up_to_integers (negsuc a) (negsuc b) = up_to b a

less_booleans : (p q : Bool) → is_lt (bool_cmp p q) ≡ (not p && q)
less_booleans true true = refl
less_booleans true false = refl
less_booleans false true = refl
less_booleans false false = refl

up_to_booleans : (p q : Bool) → is_le (bool_cmp p q) ≡ (not p || q)
up_to_booleans true true = refl
up_to_booleans true false = refl
up_to_booleans false true = refl
up_to_booleans false false = refl

apart_order : (v w : Worth) (t u : Term) → are_of_a_kind v w ≡ false → order_by v w t u ≡ None
apart_order (worth.Integer m) (worth.Integer n) t u e = cc
apart_order (worth.Integer m) (worth.Boolean q) t u e = refl
apart_order (worth.Integer m) worth.Text t u e = refl
apart_order (worth.Integer m) worth.Opaque t u e = refl
apart_order (worth.Boolean p) (worth.Integer n) t u e = refl
apart_order (worth.Boolean p) (worth.Boolean q) t u e = cc
apart_order (worth.Boolean p) worth.Text t u e = refl
apart_order (worth.Boolean p) worth.Opaque t u e = refl
apart_order worth.Text (worth.Integer n) t u e = refl
apart_order worth.Text (worth.Boolean q) t u e = refl
apart_order worth.Text worth.Text t u e = cc
apart_order worth.Text worth.Opaque t u e = refl
apart_order worth.Opaque (worth.Integer n) t u e = refl
apart_order worth.Opaque (worth.Boolean q) t u e = refl
apart_order worth.Opaque worth.Text t u e = refl
apart_order worth.Opaque worth.Opaque t u e = refl

no_order : (t u : Term) → are_of_a_kind (worth_of t) (worth_of u) ≡ false → order t u ≡ None
unfolding order
no_order t u e = apart_order (worth_of t) (worth_of u) t u e

-- the other way round
abbrev turned : Option Ordering → Option Ordering
turned o = option_map ordering_reverse o

boolean_turned : (p q : Bool) → bool_cmp p q ≡ ordering_reverse (bool_cmp q p)
boolean_turned true true = refl
boolean_turned true false = refl
boolean_turned false true = refl
boolean_turned false false = refl

worths_turned : (v w : Worth) (t u : Term) → order_by v w t u ≡ turned (order_by w v u t)
worths_turned (worth.Integer m) (worth.Integer n) t u = ap Some (int_cmp_total.antisymm m n)
worths_turned (worth.Integer m) (worth.Boolean q) t u = refl
worths_turned (worth.Integer m) worth.Text t u = refl
worths_turned (worth.Integer m) worth.Opaque t u = refl
worths_turned (worth.Boolean p) (worth.Integer n) t u = refl
worths_turned (worth.Boolean p) (worth.Boolean q) t u = ap Some (boolean_turned p q)
worths_turned (worth.Boolean p) worth.Text t u = refl
worths_turned (worth.Boolean p) worth.Opaque t u = refl
worths_turned worth.Text (worth.Integer n) t u = refl
worths_turned worth.Text (worth.Boolean q) t u = refl
worths_turned worth.Text worth.Text t u = ap Some (texts_total.antisymm (form_of t) (form_of u))
worths_turned worth.Text worth.Opaque t u = refl
worths_turned worth.Opaque (worth.Integer n) t u = refl
worths_turned worth.Opaque (worth.Boolean q) t u = refl
worths_turned worth.Opaque worth.Text t u = refl
worths_turned worth.Opaque worth.Opaque t u = refl

order_turned : (t u : Term) → order t u ≡ turned (order u t)
unfolding order
order_turned t u = worths_turned (worth_of t) (worth_of u) t u

above_is : (o : Option Ordering) → option_map is_gt (turned o) ≡ option_map is_lt o
above_is None = refl
above_is (Some Less) = refl
above_is (Some Equal) = refl
above_is (Some Greater) = refl

from_is : (o : Option Ordering) → option_map is_ge (turned o) ≡ option_map is_le o
from_is None = refl
from_is (Some Less) = refl
from_is (Some Equal) = refl
from_is (Some Greater) = refl

greater : (s : Bindings) (a b : Expr) → value (expr.Compare compare.Greater a b) s ≡ value (expr.Compare compare.Less b a) s
greater s a b = value_compare compare.Greater a b s ∙ ap (option_map boolean) (by (value a s) (value b s)) ∙ sym (value_compare compare.Less b a s)
  where
    by : (x y : Option Term) → on_both (compared compare.Greater) x y ≡ on_both (compared compare.Less) y x
    by (Some t) (Some u) = ap (option_map is_gt) (order_turned t u) ∙ above_is (order u t)
    by (Some t) None = refl
    by None (Some u) = refl
    by None None = refl

from : (s : Bindings) (a b : Expr) → value (expr.Compare compare.GreaterOrEqual a b) s ≡ value (expr.Compare compare.LessOrEqual b a) s
from s a b = value_compare compare.GreaterOrEqual a b s ∙ ap (option_map boolean) (by (value a s) (value b s)) ∙ sym (value_compare compare.LessOrEqual b a s)
  where
    by : (x y : Option Term) → on_both (compared compare.GreaterOrEqual) x y ≡ on_both (compared compare.LessOrEqual) y x
    by (Some t) (Some u) = ap (option_map is_ge) (order_turned t u) ∙ from_is (order u t)
    by (Some t) None = refl
    by None (Some u) = refl
    by None None = refl

module _ (op : Compare) (test : Ordering → Bool) (is : (t u : Term) → compared op t u ≡ option_map test (order t u)) where
  order_integers : (r : ℤ → ℤ → Bool) → ((m n : ℤ) → test (int_cmp m n) ≡ r m n) → OfIntegers op r
  order_integers r f s a b m n h k =
      two_terms op s a b h.0 k.0 h.1 k.1
      ∙ ap (option_map boolean) (is h.0 k.0 ∙ ap (option_map test) (order_worths h.0 k.0 (worth.Integer m) (worth.Integer n) h.2 k.2) ∙ ap Some (f m n))

  order_booleans : (r : Bool → Bool → Bool) → ((p q : Bool) → test (bool_cmp p q) ≡ r p q) → OfBooleans op r
  order_booleans r f s a b p q h k =
      two_terms op s a b h.0 k.0 h.1 k.1
      ∙ ap (option_map boolean) (is h.0 k.0 ∙ ap (option_map test) (order_worths h.0 k.0 (worth.Boolean p) (worth.Boolean q) h.2 k.2) ∙ ap Some (f p q))

  order_strings : OfStrings op (λ x y. test (text_cmp x y))
  order_strings s a b x y h k =
      two_terms op s a b h.0 k.0 h.1 k.1
      ∙ ap (option_map boolean)
      (is h.0 k.0 ∙ ap (option_map test) (order_worths h.0 k.0 worth.Text worth.Text h.2 k.2)
      ∙ (ap (λ (v : List ℕ). Some (test (text_cmp v (form_of k.0)))) h.3 ∙ ap (λ (v : List ℕ). Some (test (text_cmp x v))) k.3))

  order_others : (t u : Term) → are_of_a_kind (worth_of t) (worth_of u) ≡ false → OfTerms op t u None
  order_others t u e = of_terms op t u None (is t u ∙ ap (option_map test) (no_order t u e))

pub by_order : Order
by_order = record {
  less_integers = order_integers compare.Less is_lt (λ t u. refl) int_lt less_integers;
  less_booleans = order_booleans compare.Less is_lt (λ t u. refl) (λ p q. not p && q) less_booleans;
  less_strings = order_strings compare.Less is_lt (λ t u. refl);
  up_to_integers = order_integers compare.LessOrEqual is_le (λ t u. refl) int_le up_to_integers;
  up_to_booleans = order_booleans compare.LessOrEqual is_le (λ t u. refl) (λ p q. not p || q) up_to_booleans;
  up_to_strings = order_strings compare.LessOrEqual is_le (λ t u. refl);
  greater = greater;
  from = from;
  others_less = order_others compare.Less is_lt (λ t u. refl);
  others_up_to = order_others compare.LessOrEqual is_le (λ t u. refl);
}

-- ---- errors

pub errors_stay : ErrorsStay
errors_stay op s a b (inl h) = value_compare op a b s ∙ ap (λ (o : Option Term). option_map boolean (on_both (compared op) o (value b s))) h
errors_stay op s a b (inr h) = value_compare op a b s ∙ ap (λ (o : Option Term). option_map boolean (on_both (compared op) (value a s) o)) h ∙ by (value a s)
  where
    by : (x : Option Term) → option_map boolean (on_both (compared op) x None) ≡ None
    by (Some t) = refl
    by None = refl
