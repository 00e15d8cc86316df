use Rattle.std.proofs.Common.{arith}
use Rattle.std.proofs.lemmas.Grind.{common_steps}
use Rattle.fx_plan.proofs.PlaceLemmas.{joined_is}
use Rattle.fx_plan.proofs.positions.join.Goals as goal

pub returns : goal.returns
returns c =
    let is = joined_is c.args.units.now.items c.args.at c.args.pattern.now c.index_mut.result.now c.requires in
    grind (arith, common_steps, is)
