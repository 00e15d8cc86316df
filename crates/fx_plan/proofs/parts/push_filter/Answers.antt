use Rattle.std.proofs.Common.{arith}
use Rattle.std.proofs.lemmas.Grind.{common_steps}
use Rattle.fx_plan.proofs.ExplainLemmas.{filter_line_is}
use Rattle.fx_plan.proofs.parts.push_filter.Goals as goal

pub returns : goal.returns
returns c =
    let is = filter_line_is c.args.filter.now in
    grind (arith, common_steps, is)
