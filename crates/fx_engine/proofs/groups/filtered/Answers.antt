use Rattle.std.proofs.Common.{◌∙◌, ap, List}
use Rattle.fx_algebra.specs.Operators.{filtered as filtered_of}
use Rattle.fx_algebra.specs.declared.expressions.Expr.{Expr}
use Rattle.fx_walks.proofs.ElementLemmas.{own_filters}
use Rattle.fx_engine.proofs.groups.filtered.Goals as goal

pub returns-clause-given : goal.returns-clause-given
returns-clause-given c =
    c.in_ok-filter.ensures ∙ ap (λ (es : List Expr). filtered_of es c.args.rows.items) (c.as_slice.ensures.value ∙ c.in_ok-filters.ensures ∙ own_filters c.args.group.now)
