-- The value of an expression from the values of its parts.
use Rattle.std.proofs.Common.{◌≡◌, ◌∙◌, sym, ap, ℕ, Bool, not, List, map, Option, Some, option_map, option_and_then}
use Rattle.std.specs.Prelude.{neg_ℤ}
use Rattle.fx_terms.specs.declared.terms.Term.{Term}
use Rattle.fx_algebra.specs.Solutions.{Bindings, term_of}
use Rattle.fx_algebra.specs.Values.{all_of, among, any_of, boolean, call, compared, integer, integer_in, negated_by, on_both, product, sum, truth_of, value, value_step}
use Rattle.fx_algebra.specs.Worths.{if_in_range}
use Rattle.fx_algebra.specs.declared.expressions.Compare.{Compare}
use Rattle.fx_algebra.specs.declared.expressions.Function.{Function}
use Rattle.fx_algebra.specs.declared.expressions.Sign.{Sign}
use Rattle.fx_algebra.specs.declared.expressions.Expr.{Expr, Expr-F, fold-roll-Expr}
use Rattle.fx_algebra.specs.declared.expressions.Expr.TheVariants as expr

abbrev pub values : List Expr → Bindings → List (Option Term)
values parts s = map (λ e. value e s) parts

pub value_or : (parts : List Expr) (s : Bindings) → value (expr.Or parts) s ≡ option_map boolean (any_of (map truth_of (values parts s)))
value_or parts s = ap (λ e. value e s) (sym (expr.rolls-Or parts)) ∙ fold-roll-Expr (Option Term) (value_step s) (Expr-F.Or parts)

pub value_and : (parts : List Expr) (s : Bindings) → value (expr.And parts) s ≡ option_map boolean (all_of (map truth_of (values parts s)))
value_and parts s = ap (λ e. value e s) (sym (expr.rolls-And parts)) ∙ fold-roll-Expr (Option Term) (value_step s) (Expr-F.And parts)

pub value_among : (negated : Bool) (item : Expr) (list : List Expr) (s : Bindings) → value (expr.Among negated item list) s ≡ option_map boolean (option_map (negated_by negated) (among (value item s) (values list s)))
value_among negated item list s = ap (λ e. value e s) (sym (expr.rolls-Among negated item list)) ∙ fold-roll-Expr (Option Term) (value_step s) (Expr-F.Among negated item list)

pub value_sum : (first : Expr) (rest : List (Sign × Expr)) (s : Bindings) → value (expr.Sum first rest) s ≡ option_map integer (sum (value first s) (map (λ p. (p.0, value p.1 s)) rest))
value_sum first rest s = ap (λ e. value e s) (sym (expr.rolls-Sum first rest)) ∙ fold-roll-Expr (Option Term) (value_step s) (Expr-F.Sum first rest)

pub value_product : (parts : List Expr) (s : Bindings) → value (expr.Product parts) s ≡ option_map integer (product (values parts s))
value_product parts s = ap (λ e. value e s) (sym (expr.rolls-Product parts)) ∙ fold-roll-Expr (Option Term) (value_step s) (Expr-F.Product parts)

pub value_call : (f : Function) (args : List Expr) (s : Bindings) → value (expr.Call f args) s ≡ call f (values args s)
value_call f args s = ap (λ e. value e s) (sym (expr.rolls-Call f args)) ∙ fold-roll-Expr (Option Term) (value_step s) (Expr-F.Call f args)

pub value_not : (part : Expr) (s : Bindings) → value (expr.Not part) s ≡ option_map (λ b. boolean (not b)) (truth_of (value part s))
value_not part s = ap (λ e. value e s) (sym (expr.rolls-Not part)) ∙ fold-roll-Expr (Option Term) (value_step s) (Expr-F.Not part)

pub value_compare : (op : Compare) (a b : Expr) (s : Bindings) → value (expr.Compare op a b) s ≡ option_map boolean (on_both (compared op) (value a s) (value b s))
value_compare op a b s = ap (λ e. value e s) (sym (expr.rolls-Compare op a b)) ∙ fold-roll-Expr (Option Term) (value_step s) (Expr-F.Compare op a b)

pub value_positive : (part : Expr) (s : Bindings) → value (expr.Positive part) s ≡ option_map integer (integer_in (value part s))
value_positive part s = ap (λ e. value e s) (sym (expr.rolls-Positive part)) ∙ fold-roll-Expr (Option Term) (value_step s) (Expr-F.Positive part)

pub value_negative : (part : Expr) (s : Bindings) → value (expr.Negative part) s ≡ option_map integer (option_and_then (λ n. if_in_range (neg_ℤ n)) (integer_in (value part s)))
value_negative part s = ap (λ e. value e s) (sym (expr.rolls-Negative part)) ∙ fold-roll-Expr (Option Term) (value_step s) (Expr-F.Negative part)

pub value_variable : (name : List ℕ) (s : Bindings) → value (expr.Variable name) s ≡ term_of s name
value_variable name s = ap (λ e. value e s) (sym (expr.rolls-Variable name)) ∙ fold-roll-Expr (Option Term) (value_step s) (Expr-F.Variable name)

pub value_constant : (t : Term) (s : Bindings) → value (expr.Constant t) s ≡ Some t
value_constant t s = ap (λ e. value e s) (sym (expr.rolls-Constant t)) ∙ fold-roll-Expr (Option Term) (value_step s) (Expr-F.Constant t)
