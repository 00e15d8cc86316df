use Rattle.std.proofs.Common.{◌≡◌, ◌∙◌, ap, not, filter, fold, ℕ, List}
use Rattle.std.proofs.lemmas.Result.{IfOk-weaker}
use Rattle.fx_algebra.specs.BasicGraphPatterns.{variables}
use Rattle.fx_algebra.specs.Scopes.{once, with_name}
use Rattle.fx_algebra.specs.declared.expressions.Expr.{Expr}
use Rattle.fx_plan.specs.Conditions.{has_names}
use Rattle.fx_plan.proofs.ShareLemmas.{covered_same, uncovered_same}
use Rattle.fx_plan.proofs.shares.parted.Goals as goal

pub returns-clause-own : goal.returns-clause-own
returns-clause-own c =
    let ps = c.args.patterns.now in
    let es = c.args.filters.items in
    let names : c.add_patterns.new.self ≡ once (variables ps) = c.in_ok-add_patterns.ensures ∙ ap (λ (n : List (List ℕ)). fold with_name n (variables ps)) c.new-names.ensures in
    IfOk-weaker c.parted_by.result _ _ (λ both f. f ∙ ap (λ (n : List (List ℕ)). filter (has_names n) es) names ∙ covered_same ps es) c.parted_by.ensures.own

pub returns-clause-others : goal.returns-clause-others
returns-clause-others c =
    let ps = c.args.patterns.now in
    let es = c.args.filters.items in
    let names : c.add_patterns.new.self ≡ once (variables ps) = c.in_ok-add_patterns.ensures ∙ ap (λ (n : List (List ℕ)). fold with_name n (variables ps)) c.new-names.ensures in
    IfOk-weaker c.parted_by.result _ _ (λ both f. f ∙ ap (λ (n : List (List ℕ)). filter (λ (e : Expr). not (has_names n e)) es) names ∙ uncovered_same ps es) c.parted_by.ensures.others
