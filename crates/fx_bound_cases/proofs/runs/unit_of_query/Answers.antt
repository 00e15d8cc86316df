use Rattle.std.proofs.Common.{◌≡◌, sym, subst, true, map, List, [], rules}
use Rattle.std.specs.List.{list_all}
use Rattle.fx_algebra.specs.Groups.{keeps_run}
use Rattle.fx_terms.specs.declared.patterns.Pattern.{Pattern}
use Rattle.fx_algebra.specs.declared.expressions.Expr.{Expr}
use Rattle.fx_spelling.specs.Runs.{IsRun}
use Rattle.fx_bound_cases.specs.LoneRuns.{part_of}
use Rattle.fx_bound_cases.proofs.LoneRunLemmas.{of_query}
use Rattle.fx_bound_cases.proofs.runs.unit_of_query.Goals as goal

pub unit_of_run-requires : goal.unit_of_run-requires
unit_of_run-requires c =
    let es = c.as_slice-elements.result.now in
    let ps = c.in_ok-patterns.patterns in
    let filters = c.in_ok-filters.filters in
    let keeps : list_all keeps_run (map part_of es) ≡ true = search rules in
    let some : ps ≡ [] → ⊥ = search rules in
    let whole = of_query c.requires.0 c.args.query.now es ps filters c.requires.1 c.as_slice-elements.ensures keeps some c.in_ok-patterns.ensures c.in_ok-filters.ensures in
    subst (λ (v : List Pattern). IsRun v c.as_slice-2.result.now) (sym c.as_slice.ensures) (subst (λ (v : List Expr). IsRun ps v) (sym c.as_slice-2.ensures) whole)
