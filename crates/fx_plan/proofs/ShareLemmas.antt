-- Filters that units hold the variables of.
use Rattle.std.proofs.Common.{◌≡◌, ap, refl, List, [], ◌∷◌, ◌++◌, filter, not}
use Rattle.fx_terms.specs.declared.patterns.Pattern.{Pattern}
use Rattle.fx_algebra.specs.BasicGraphPatterns.{variables}
use Rattle.fx_algebra.specs.Scopes.{is_among, once}
use Rattle.fx_algebra.specs.Units.{expr_names, is_covered}
use Rattle.fx_algebra.specs.declared.expressions.Expr.{Expr}
use Rattle.fx_algebra.specs.declared.units.Unit as unit
use Rattle.fx_plan.specs.Conditions.{has_names}
use Rattle.fx_plan.specs.Plans.{shared, with_filters}
use Rattle.fx_plan.proofs.NameLemmas.{all_same, among_once}

-- what units leave of filters
abbrev pub left_after : List Expr → List unit.Unit → List Expr
left_after es [] = es
left_after es (u ∷ us) = left_after (filter (λ e. not (is_covered u.patterns e)) es) us

pub shared_snoc : (es : List Expr) (us : List unit.Unit) (u : unit.Unit) → shared es (us ++ u ∷ []) ≡ shared es us ++ with_filters u (filter (is_covered u.patterns) (left_after es us)) ∷ []
shared_snoc es [] u = refl
shared_snoc es (v ∷ us) u = ap (λ (rest : List unit.Unit). with_filters v (filter (is_covered v.patterns) es) ∷ rest) (shared_snoc (filter (λ e. not (is_covered v.patterns e)) es) us u)

pub left_snoc : (es : List Expr) (us : List unit.Unit) (u : unit.Unit) → left_after es (us ++ u ∷ []) ≡ filter (λ e. not (is_covered u.patterns e)) (left_after es us)
left_snoc es [] u = refl
left_snoc es (v ∷ us) u = left_snoc (filter (λ e. not (is_covered v.patterns e)) es) us u

covers : (ps : List Pattern) (e : Expr) → has_names (once (variables ps)) e ≡ is_covered ps e
covers ps e = all_same (is_among (once (variables ps))) (is_among (variables ps)) (among_once (variables ps)) (expr_names e)

pub covered_same : (ps : List Pattern) (es : List Expr) → filter (has_names (once (variables ps))) es ≡ filter (is_covered ps) es
covered_same ps es = λ i. filter (λ e. covers ps e i) es

pub uncovered_same : (ps : List Pattern) (es : List Expr) → filter (λ e. not (has_names (once (variables ps)) e)) es ≡ filter (λ e. not (is_covered ps e)) es
uncovered_same ps es = λ i. filter (λ e. not (covers ps e i)) es
