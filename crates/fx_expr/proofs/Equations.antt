-- The equations of `value` at the expressions that have a list of parts.
use Rattle.std.proofs.Common.{◌≡◌, ◌∙◌, sym, ap, Bool, List, map, Option, option_map}
use Rattle.fx_algebra.specs.Solutions.{Bindings}
use Rattle.fx_algebra.specs.declared.expressions.Sign.{Sign}
use Rattle.fx_algebra.specs.declared.expressions.Expr.{Expr, Expr-F, fold-roll-Expr}
use Rattle.fx_algebra.specs.declared.expressions.Expr.TheVariants.{Or, And, Among, Sum, Product, rolls-Or, rolls-And, rolls-Among, rolls-Sum, rolls-Product}
use Rattle.fx_terms.specs.declared.terms.Term.{Term}
use Rattle.fx_algebra.specs.Values.{value, value_step, boolean, integer, truth_of, any_of, all_of, among, negated_by, sum, product}

pub value_or : (parts : List Expr) (s : Bindings) → value (Or parts) s ≡ option_map boolean (any_of (map truth_of (map (λ e. value e s) parts)))
value_or parts s = ap (λ e. value e s) (sym (rolls-Or parts)) ∙ fold-roll-Expr (Option Term) (value_step s) (Expr-F.Or parts)

pub value_and : (parts : List Expr) (s : Bindings) → value (And parts) s ≡ option_map boolean (all_of (map truth_of (map (λ e. value e s) parts)))
value_and parts s = ap (λ e. value e s) (sym (rolls-And parts)) ∙ fold-roll-Expr (Option Term) (value_step s) (Expr-F.And parts)

pub value_among : (negated : Bool) (item : Expr) (list : List Expr) (s : Bindings) → value (Among negated item list) s ≡ option_map boolean (option_map (negated_by negated) (among (value item s) (map (λ e. value e s) list)))
value_among negated item list s = ap (λ e. value e s) (sym (rolls-Among negated item list)) ∙ fold-roll-Expr (Option Term) (value_step s) (Expr-F.Among negated item list)

pub value_sum : (first : Expr) (rest : List (Sign × Expr)) (s : Bindings) → value (Sum first rest) s ≡ option_map integer (sum (value first s) (map (λ p. (p.0, value p.1 s)) rest))
value_sum first rest s = ap (λ e. value e s) (sym (rolls-Sum first rest)) ∙ fold-roll-Expr (Option Term) (value_step s) (Expr-F.Sum first rest)

pub value_product : (parts : List Expr) (s : Bindings) → value (Product parts) s ≡ option_map integer (product (map (λ e. value e s) parts))
value_product parts s = ap (λ e. value e s) (sym (rolls-Product parts)) ∙ fold-roll-Expr (Option Term) (value_step s) (Expr-F.Product parts)
