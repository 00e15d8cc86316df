use Rattle.std.proofs.Common.{◌∙◌, ap, sym}
use Rattle.fx_algebra.specs.declared.expressions.Expr.TheVariants as expr
use Rattle.fx_evaluation.proofs.KnownLemmas.{known_equal}
use Rattle.fx_evaluation.proofs.known.known_by.Goals as goal

pub returns-in-Iri : goal.returns-in-Iri
returns-in-Iri c =
    let whole = c.in-Compare in
    known_equal c.args.condition.now whole.left whole.right c.in-Variable.name c.in-Iri.iri (whole.is ∙ ap (λ op. expr.Compare op whole.left whole.right) c.in-Equal.is) (sym c.get.ensures ∙ c.in-Variable.is)
    (sym c.get-in-Variable.ensures ∙ c.in-Constant.is ∙ ap expr.Constant c.in-Iri.is)
