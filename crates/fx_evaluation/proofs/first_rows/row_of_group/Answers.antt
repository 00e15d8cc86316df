use Rattle.std.proofs.Common.{◌∙◌, ap, List, rules}
use Rattle.std.proofs.lemmas.Option.{IfSome_then}
use Rattle.fx_algebra.specs.Answers.{has_rows}
use Rattle.fx_algebra.specs.Evaluation.{rows_from}
use Rattle.fx_algebra.specs.Groups.{one_empty}
use Rattle.fx_algebra.specs.Operators.{filtered}
use Rattle.fx_algebra.specs.declared.expressions.Expr.{Expr}
use Rattle.fx_evaluation.specs.Optionals.{IsRunOf}
use Rattle.fx_evaluation.proofs.FirstRowLemmas.{tells_of_group}
use Rattle.fx_evaluation.proofs.first_rows.row_of_group.Goals as goal

pub returns-in_ok-found-in-Some : goal.returns-in_ok-found-in-Some
returns-in_ok-found-in-Some c =
    let group = c.args.group.now in
    let graph = c.args.store.now in
    let patterns = c.in-Some.patterns.items in
    let conditions = c.in_ok-conditions-in-Some.conditions.items in
    let whole : IsRunOf group patterns = search rules in
    IfSome_then c.in_ok-found-in-Some.found c.in_ok-found-in-Some.ensures
    (λ truth e. tells_of_group group graph patterns conditions truth whole c.in_ok-conditions-in-Some.ensures (e ∙ ap (λ (es : List Expr). has_rows (filtered es (rows_from graph one_empty patterns))) c.as_slice.ensures.value))
