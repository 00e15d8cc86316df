-- The tables of truth values.
use Rattle.std.proofs.Common.{◌≡◌, ◌∙◌, sym, ap, refl, Bool, true, false, not, List, [], ◌∷◌, map, Option, Some, None, option_map}
use Rattle.fx_algebra.specs.Solutions.{Bindings}
use Rattle.fx_algebra.specs.Values.{all_of, any_of, boolean, truth_of, value}
use Rattle.fx_algebra.specs.Worths.{integer_type, kind_of, read_boolean, truth}
use Rattle.fx_algebra.specs.declared.expressions.Expr.{Expr}
use Rattle.fx_algebra.specs.declared.expressions.Expr.TheVariants as expr
use Rattle.fx_laws_operators.specs.Operators.{And, E, F, Logic, Not, Or, T}
use Rattle.fx_laws_operators.proofs.Equations.{value_and, value_not, value_or, values}

pub truth_back : (b : Bool) → truth (boolean b) ≡ Some b
unfolding truth boolean kind_of integer_type read_boolean
truth_back true = refl
truth_back false = refl

-- the truth of a truth value that may be the error is it
pub truths_back : (o : Option Bool) → truth_of (option_map boolean o) ≡ o
truths_back None = refl
truths_back (Some b) = truth_back b

or_row : (p q r : Option Bool) → any_of (p ∷ q ∷ []) ≡ r → Or p q r
or_row p q r e s a b h k = value_or (a ∷ b ∷ []) s ∙ ap (option_map boolean) (ap (λ (v : Option Bool). any_of (v ∷ truth_of (value b s) ∷ [])) h ∙ ap (λ (v : Option Bool). any_of (p ∷ v ∷ [])) k ∙ e)

and_row : (p q r : Option Bool) → all_of (p ∷ q ∷ []) ≡ r → And p q r
and_row p q r e s a b h k = value_and (a ∷ b ∷ []) s ∙ ap (option_map boolean) (ap (λ (v : Option Bool). all_of (v ∷ truth_of (value b s) ∷ [])) h ∙ ap (λ (v : Option Bool). all_of (p ∷ v ∷ [])) k ∙ e)

not_row : (p r : Option Bool) → option_map not p ≡ r → Not p r
not_row p r e s a h = value_not a s ∙ ap (option_map (λ b. boolean (not b))) h ∙ (twice p ∙ ap (option_map boolean) e)
  where
    twice : (o : Option Bool) → option_map (λ b. boolean (not b)) o ≡ option_map boolean (option_map not o)
    twice None = refl
    twice (Some b) = refl

-- ---- chains

any_first : (p q : Option Bool) (ys : List (Option Bool)) → any_of (p ∷ q ∷ ys) ≡ any_of (any_of (p ∷ q ∷ []) ∷ ys)
any_first (Some true) q ys = refl
any_first (Some false) (Some true) ys = refl
any_first (Some false) (Some false) ys = refl
any_first (Some false) None ys = refl
any_first None (Some true) ys = refl
any_first None (Some false) ys = refl
any_first None None ys = refl

all_first : (p q : Option Bool) (ys : List (Option Bool)) → all_of (p ∷ q ∷ ys) ≡ all_of (all_of (p ∷ q ∷ []) ∷ ys)
all_first (Some false) q ys = refl
all_first (Some true) (Some true) ys = refl
all_first (Some true) (Some false) ys = refl
all_first (Some true) None ys = refl
all_first None (Some true) ys = refl
all_first None (Some false) ys = refl
all_first None None ys = refl

or_chain : (s : Bindings) (a b c : Expr) (rest : List Expr) → value (expr.Or (a ∷ b ∷ c ∷ rest)) s ≡ value (expr.Or (expr.Or (a ∷ b ∷ []) ∷ c ∷ rest)) s
or_chain s a b c rest =
    let others = map truth_of (values (c ∷ rest) s) in
    value_or (a ∷ b ∷ c ∷ rest) s
    ∙ (ap (option_map boolean) (any_first (truth_of (value a s)) (truth_of (value b s)) others
    ∙ ap (λ (v : Option Bool). any_of (v ∷ others)) (sym (ap truth_of (value_or (a ∷ b ∷ []) s) ∙ truths_back (any_of (truth_of (value a s) ∷ truth_of (value b s) ∷ [])))))
    ∙ sym (value_or (expr.Or (a ∷ b ∷ []) ∷ c ∷ rest) s))

and_chain : (s : Bindings) (a b c : Expr) (rest : List Expr) → value (expr.And (a ∷ b ∷ c ∷ rest)) s ≡ value (expr.And (expr.And (a ∷ b ∷ []) ∷ c ∷ rest)) s
and_chain s a b c rest =
    let others = map truth_of (values (c ∷ rest) s) in
    value_and (a ∷ b ∷ c ∷ rest) s
    ∙ (ap (option_map boolean) (all_first (truth_of (value a s)) (truth_of (value b s)) others
    ∙ ap (λ (v : Option Bool). all_of (v ∷ others)) (sym (ap truth_of (value_and (a ∷ b ∷ []) s) ∙ truths_back (all_of (truth_of (value a s) ∷ truth_of (value b s) ∷ [])))))
    ∙ sym (value_and (expr.And (a ∷ b ∷ []) ∷ c ∷ rest) s))

pub logic : Logic
logic = record {
  or_true_true = or_row T T T refl;
  or_true_false = or_row T F T refl;
  or_true_error = or_row T E T refl;
  or_false_true = or_row F T T refl;
  or_false_false = or_row F F F refl;
  or_false_error = or_row F E E refl;
  or_error_true = or_row E T T refl;
  or_error_false = or_row E F E refl;
  or_error_error = or_row E E E refl;
  and_true_true = and_row T T T refl;
  and_true_false = and_row T F F refl;
  and_true_error = and_row T E E refl;
  and_false_true = and_row F T F refl;
  and_false_false = and_row F F F refl;
  and_false_error = and_row F E F refl;
  and_error_true = and_row E T E refl;
  and_error_false = and_row E F F refl;
  and_error_error = and_row E E E refl;
  not_true = not_row T F refl;
  not_false = not_row F T refl;
  not_error = not_row E E refl;
  or_chain = or_chain;
  and_chain = and_chain;
}
