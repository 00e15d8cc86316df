use Rattle.std.proofs.Common.{◌∙◌}
use Rattle.std.specs.Prelude.{pos}
use Rattle.fx_expr.proofs.NumberLemmas.{converted}
use Rattle.fx_expr.proofs.values.in_range.Goals as goal

pub returns : goal.returns
returns c = c.ok.ensures.value ∙ converted (pos c.args.count) c.try_from.result c.try_from.ensures
