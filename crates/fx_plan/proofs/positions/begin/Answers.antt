use Rattle.std.proofs.Common.{arith}
use Rattle.std.proofs.lemmas.Grind.{common_steps}
use Rattle.std.proofs.lemmas.Bool.Decides.{nat_tests}
use Rattle.fx_plan.specs.Plans.{is_group_of}
use Rattle.fx_plan.proofs.PlaceLemmas.{own_group, position_push}
use Rattle.fx_plan.proofs.positions.begin.Goals as goal

pub returns-clause-groups : goal.returns-clause-groups
returns-clause-groups c = λ k.
    let own = own_group c.args.member k c.args.pattern.now in
    let new = position_push (is_group_of k) c.args.units.now.items c.in_ok-group.field-0 in
    grind (arith, common_steps, nat_tests, own, new, c.requires.knows k, c.requires.new, c.in_ok-insert.ensures.updates.0 k)
