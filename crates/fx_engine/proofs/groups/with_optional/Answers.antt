use Rattle.std.proofs.Common.{◌∙◌, ap, List}
use Rattle.fx_algebra.specs.declared.expressions.Expr.{Expr}
use Rattle.fx_steps.specs.Optionals.{optional_rows}
use Rattle.fx_walks.proofs.ElementLemmas.{own_filters}
use Rattle.fx_engine.proofs.groups.with_optional.Goals as goal

pub returns-clause-given : goal.returns-clause-given
returns-clause-given c =
    c.in_ok-or_themselves.ensures ∙ ap (λ (es : List Expr). optional_rows es 0 c.args.before.items c.args.found.items) (c.as_slice.ensures.value ∙ c.in_ok-filters.ensures ∙ own_filters c.args.group.now)
