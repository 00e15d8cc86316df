use Rattle.std.proofs.Common.{arith}
use Rattle.std.proofs.lemmas.Grind.{common_steps}
use Rattle.fx_plan.proofs.ExplainLemmas.{pattern_line_is}
use Rattle.fx_plan.proofs.parts.push_pattern.Goals as goal

pub returns : goal.returns
returns c =
    let is = pattern_line_is c.args.pattern.now in
    grind (arith, common_steps, is)
