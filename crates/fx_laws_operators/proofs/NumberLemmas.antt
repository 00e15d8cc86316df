-- Sums and products.
use Rattle.std.proofs.Common.{◌≡◌, ◌∙◌, sym, ap, refl, ℕ, suc, ◌*◌, ◌⊎◌, inl, inr, Bool, true, false, if◌then◌else◌, List, [], ◌∷◌, map, Option, Some, None, option_map, option_and_then, arith}
use Rattle.std.specs.Prelude.{ℤ, pos, negsuc, ◌*ℤ◌, neg_ℤ}
use Rattle.std.proofs.Math.IntN.{pos-*ℤ-pos, pos-*ℤ-negsuc}
use Rattle.fx_terms.specs.declared.terms.Term.{Term}
use Rattle.fx_algebra.specs.Solutions.{Bindings}
use Rattle.fx_algebra.specs.Values.{integer, integer_by, integer_in, product_from, sum_from, value, with_factor, with_part, with_sign}
use Rattle.fx_algebra.specs.Worths.{if_in_range, is_in_range, worth_of}
use Rattle.fx_algebra.specs.declared.expressions.Sign.{Sign}
use Rattle.fx_algebra.specs.declared.expressions.Sign.TheVariants.{Plus, Minus}
use Rattle.fx_algebra.specs.declared.expressions.Expr.{Expr}
use Rattle.fx_algebra.specs.declared.expressions.Expr.TheVariants as expr
use Rattle.fx_algebra.specs.declared.worths.Worth.{Worth}
use Rattle.fx_algebra.specs.declared.worths.Worth.TheVariants as worth
use Rattle.fx_laws_operators.specs.Operators.{Arithmetic, IsInteger, IsNoInteger, OnIntegers, OnOthers, number, times}
use Rattle.fx_laws_operators.proofs.Equations.{value_negative, value_positive, value_product, value_sum, values}
use Rattle.fx_laws_operators.proofs.WorthLemmas.{in_range_of, integer_of, no_integer_of, number_is, worth_back}

abbrev signed_values : List (Sign × Expr) → Bindings → List (Sign × Option Term)
signed_values parts s = map (λ p. (p.0, value p.1 s)) parts

and_some : (o : Option ℤ) → option_and_then (λ (n : ℤ). Some n) o ≡ o
and_some None = refl
and_some (Some n) = refl

none_then : (o : Option ℤ) (f : ℤ → Option ℤ) → o ≡ None → option_and_then f o ≡ None
none_then None f e = refl
none_then (Some n) f e = absurd (cc)

-- ---- sums

sum_two : (sign : Sign) (s : Bindings) (a b : Expr) (m n : ℤ) → IsInteger s a m → IsInteger s b n → value (expr.Sum a ((sign, b) ∷ [])) s ≡ number (with_sign sign m n)
unfolding with_part
sum_two sign s a b m n h k =
    value_sum a ((sign, b) ∷ []) s
    ∙ ap (option_map integer)
    (ap (option_and_then (λ i. sum_from i ((sign, value b s) ∷ []))) (integer_of s a m h)
    ∙ (ap (option_and_then (λ i. Some i)) (ap (option_and_then (λ i. if_in_range (with_sign sign m i))) (integer_of s b n k)) ∙ and_some (if_in_range (with_sign sign m n))))
    ∙ number_is (with_sign sign m n)

sum_none : (sign : Sign) (s : Bindings) (a b : Expr) → IsNoInteger s a ⊎ IsNoInteger s b → value (expr.Sum a ((sign, b) ∷ [])) s ≡ None
unfolding with_part
sum_none sign s a b (inl h) = value_sum a ((sign, b) ∷ []) s ∙ ap (option_map integer) (none_then (integer_in (value a s)) (λ i. sum_from i ((sign, value b s) ∷ [])) (no_integer_of s a h))
sum_none sign s a b (inr h) = value_sum a ((sign, b) ∷ []) s ∙ ap (option_map integer) (by (integer_in (value a s)))
  where
    by : (o : Option ℤ) → option_and_then (λ i. sum_from i ((sign, value b s) ∷ [])) o ≡ None
    by None = refl
    by (Some i) = ap (λ (v : Option ℤ). option_and_then (λ j. Some j) (option_and_then (λ j. if_in_range (with_sign sign i j)) v)) (no_integer_of s b h)

-- an integer in range, as a literal and back
abbrev Ranged : Option ℤ → Type 0
Ranged o = (z : ℤ) → o ≡ Some z → is_in_range z ≡ true

kept_range : (z : ℤ) → Ranged (if_in_range z)
kept_range z = by (is_in_range z) refl
  where
    by : (b : Bool) → is_in_range z ≡ b → Ranged (if b then Some z else None)
    by true e n f = let same : z ≡ n = cc in sym (ap is_in_range same) ∙ e
    by false e n f = absurd (cc)

then_ranged : (f : ℤ → Option ℤ) → ((n : ℤ) → Ranged (f n)) → (o : Option ℤ) → Ranged (option_and_then f o)
then_ranged f g None z e = absurd (cc)
then_ranged f g (Some n) z e = g n z e

back : (o : Option ℤ) → Ranged o → integer_in (option_map integer o) ≡ o
unfolding integer_in
back None h = refl
back (Some z) h = ap integer_by (worth_back z (h z refl))

in_ranged : (o : Option Term) → Ranged (integer_in o)
unfolding integer_in
in_ranged None z e = absurd (cc)
in_ranged (Some t) z e = by (worth_of t) refl e
  where
    by : (w : Worth) → worth_of t ≡ w → integer_by w ≡ Some z → is_in_range z ≡ true
    by (worth.Integer n) f g = let same : n ≡ z = cc in in_range_of t z (f ∙ ap worth.Integer same)
    by (worth.Boolean b) f g = absurd (cc)
    by worth.Text f g = absurd (cc)
    by worth.Opaque f g = absurd (cc)

part_ranged : (sign : Sign) (m : ℤ) (o : Option Term) → Ranged (with_part sign m o)
unfolding with_part
part_ranged sign m o = then_ranged (λ n. if_in_range (with_sign sign m n)) (λ n. kept_range (with_sign sign m n)) (integer_in o)

sum_chain : (s : Bindings) (a : Expr) (p q : Sign × Expr) (rest : List (Sign × Expr)) → value (expr.Sum a (p ∷ q ∷ rest)) s ≡ value (expr.Sum (expr.Sum a (p ∷ [])) (q ∷ rest)) s
sum_chain s a p q rest =
    value_sum a (p ∷ q ∷ rest) s
    ∙ (ap (option_map integer) (by (integer_in (value a s))
    ∙ ap (option_and_then (λ m. sum_from m others)) (sym (ap integer_in (value_sum a (p ∷ []) s) ∙ back first (then_ranged (λ m. sum_from m ((p.0, value p.1 s) ∷ [])) one_ranged (integer_in (value a s))))))
    ∙ sym (value_sum (expr.Sum a (p ∷ [])) (q ∷ rest) s))
  where
    others : List (Sign × Option Term)
    others = signed_values (q ∷ rest) s

    first : Option ℤ
    first = option_and_then (λ m. sum_from m ((p.0, value p.1 s) ∷ [])) (integer_in (value a s))

    one_ranged : (m : ℤ) → Ranged (option_and_then (λ n. Some n) (with_part p.0 m (value p.1 s)))
    one_ranged m z e = part_ranged p.0 m (value p.1 s) z (sym (and_some (with_part p.0 m (value p.1 s))) ∙ e)

    inner : (o : Option ℤ) → option_and_then (λ n. sum_from n others) o ≡ option_and_then (λ n. sum_from n others) (option_and_then (λ n. Some n) o)
    inner None = refl
    inner (Some n) = refl

    by : (o : Option ℤ) → option_and_then (λ m. sum_from m ((p.0, value p.1 s) ∷ others)) o ≡ option_and_then (λ n. sum_from n others) (option_and_then (λ m. sum_from m ((p.0, value p.1 s) ∷ [])) o)
    by None = refl
    by (Some m) = inner (with_part p.0 m (value p.1 s))

-- ---- products

once : (n : ℤ) → pos 1 *ℤ n ≡ n
once (pos k) = pos-*ℤ-pos 1 k ∙ ap (λ (v : ℕ). pos v) (omega arith)
once (negsuc k) = pos-*ℤ-negsuc 1 k ∙ ap (λ (v : ℕ). neg_ℤ (pos v)) (same k)
  where
    same : (k : ℕ) → 1 * suc k ≡ suc k
    same k = omega arith

-- the first factor of a product is it, where it is an integer
first_factor : (o : Option Term) → with_factor (pos 1) o ≡ integer_in o
unfolding with_factor
first_factor o = by (integer_in o) (in_ranged o)
  where
    by : (i : Option ℤ) → Ranged i → option_and_then (λ n. if_in_range (pos 1 *ℤ n)) i ≡ i
    by None h = refl
    by (Some n) h = ap if_in_range (once n) ∙ ap (λ (b : Bool). if b then Some n else None) (h n refl)

two_factors : (x y : Option Term) → product_from (pos 1) (x ∷ y ∷ []) ≡ option_and_then (λ m. with_factor m y) (integer_in x)
two_factors x y =
    ap (option_and_then (λ m. option_and_then (λ n. Some n) (with_factor m y))) (first_factor x)
    ∙ by (integer_in x)
  where
    by : (o : Option ℤ) → option_and_then (λ m. option_and_then (λ n. Some n) (with_factor m y)) o ≡ option_and_then (λ m. with_factor m y) o
    by None = refl
    by (Some m) = and_some (with_factor m y)

product_two : OnIntegers times (λ m n. m *ℤ n)
unfolding with_factor
product_two s a b m n h k =
    value_product (a ∷ b ∷ []) s
    ∙ ap (option_map integer)
    (two_factors (value a s) (value b s)
    ∙ ap (option_and_then (λ i. with_factor i (value b s))) (integer_of s a m h)
    ∙ ap (option_and_then (λ i. if_in_range (m *ℤ i))) (integer_of s b n k))
    ∙ number_is (m *ℤ n)

product_none : OnOthers times
unfolding with_factor
product_none s a b (inl h) =
    value_product (a ∷ b ∷ []) s ∙ ap (option_map integer) (two_factors (value a s) (value b s) ∙ none_then (integer_in (value a s)) (λ i. with_factor i (value b s)) (no_integer_of s a h))
product_none s a b (inr h) = value_product (a ∷ b ∷ []) s ∙ ap (option_map integer) (two_factors (value a s) (value b s) ∙ by (integer_in (value a s)))
  where
    by : (o : Option ℤ) → option_and_then (λ i. with_factor i (value b s)) o ≡ None
    by None = refl
    by (Some i) = ap (option_and_then (λ j. if_in_range (i *ℤ j))) (no_integer_of s b h)

factor_ranged : (m : ℤ) (o : Option Term) → Ranged (with_factor m o)
unfolding with_factor
factor_ranged m o = then_ranged (λ n. if_in_range (m *ℤ n)) (λ n. kept_range (m *ℤ n)) (integer_in o)

product_chain : (s : Bindings) (a b c : Expr) (rest : List Expr) → value (expr.Product (a ∷ b ∷ c ∷ rest)) s ≡ value (expr.Product (expr.Product (a ∷ b ∷ []) ∷ c ∷ rest)) s
product_chain s a b c rest =
    value_product (a ∷ b ∷ c ∷ rest) s
    ∙ (ap (option_map integer) (by (with_factor (pos 1) (value a s))
    ∙ ap (option_and_then (λ m. product_from m others)) (sym (first_factor (value (expr.Product (a ∷ b ∷ [])) s) ∙ ap integer_in (value_product (a ∷ b ∷ []) s) ∙ back first first_ranged)))
    ∙ sym (value_product (expr.Product (a ∷ b ∷ []) ∷ c ∷ rest) s))
  where
    others : List (Option Term)
    others = values (c ∷ rest) s

    first : Option ℤ
    first = product_from (pos 1) (value a s ∷ value b s ∷ [])

    first_ranged : Ranged first
    first_ranged z e =
        then_ranged (λ m. with_factor m (value b s)) (λ m. factor_ranged m (value b s)) (integer_in (value a s)) z (sym (two_factors (value a s) (value b s)) ∙ e)

    inner : (o : Option ℤ) → option_and_then (λ n. product_from n others) o ≡ option_and_then (λ n. product_from n others) (option_and_then (λ n. Some n) o)
    inner None = refl
    inner (Some n) = refl

    by : (o : Option ℤ) → option_and_then (λ m. product_from m (value b s ∷ others)) o ≡ option_and_then (λ n. product_from n others) (option_and_then (λ m. product_from m (value b s ∷ [])) o)
    by None = refl
    by (Some m) = inner (with_factor m (value b s))

-- ---- signs

negative_one : (s : Bindings) (a : Expr) (m : ℤ) → IsInteger s a m → value (expr.Negative a) s ≡ number (neg_ℤ m)
negative_one s a m h = value_negative a s ∙ ap (λ (o : Option ℤ). option_map integer (option_and_then (λ n. if_in_range (neg_ℤ n)) o)) (integer_of s a m h) ∙ number_is (neg_ℤ m)

positive_one : (s : Bindings) (a : Expr) (m : ℤ) → IsInteger s a m → value (expr.Positive a) s ≡ number m
positive_one s a m h =
    value_positive a s ∙ ap (option_map integer) (integer_of s a m h)
    ∙ (ap (λ (b : Bool). option_map integer (if b then Some m else None)) (sym (in_range_of h.0 m h.2)) ∙ number_is m)

pub arithmetic : Arithmetic
arithmetic = record {
  plus_integers = λ s a b m n h k. sum_two Plus s a b m n h k;
  less_integers = λ s a b m n h k. sum_two Minus s a b m n h k;
  times_integers = product_two;
  negative_integer = negative_one;
  positive_integer = positive_one;
  plus_others = λ s a b h. sum_none Plus s a b h;
  less_others = λ s a b h. sum_none Minus s a b h;
  times_others = product_none;
  negative_other = λ s a h. value_negative a s ∙ ap (λ (o : Option ℤ). option_map integer (option_and_then (λ n. if_in_range (neg_ℤ n)) o)) (no_integer_of s a h);
  positive_other = λ s a h. value_positive a s ∙ ap (option_map integer) (no_integer_of s a h);
  sum_chain = sum_chain;
  product_chain = product_chain;
}
