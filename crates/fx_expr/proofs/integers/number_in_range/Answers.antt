use Rattle.std.proofs.Common.{◌∙◌}
use Rattle.fx_expr.proofs.NumberLemmas.{parsed}
use Rattle.fx_expr.proofs.integers.number_in_range.Goals as goal

pub returns : goal.returns
returns c = c.ok.ensures.value ∙ parsed c.args.form.now c.parse.result c.requires c.parse.ensures.value.0
