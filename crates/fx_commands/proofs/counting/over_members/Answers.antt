use Rattle.std.proofs.Common.{List, map, subst}
use Rattle.fx_outside.specs.Endpoints.{EndpointParts}
use Rattle.fx_pool.proofs.WireLemmas.{after_itself}
use Rattle.fx_traffic.specs.Gains.{wires_seen}
use Rattle.fx_commands.specs.Counting.{generated_query}
use Rattle.fx_commands.specs.MemberSteps.{IsAnswered}
use Rattle.fx_commands.proofs.counting.over_members.Goals as goal

pub returns-in-Ok-clause-answered : goal.returns-in-Ok-clause-answered
returns-in-Ok-clause-answered g c =
    let w = wires_seen g.W.Wire.tells_log g.W.Wire.counts_alone g.W.Wire.seen c.args.wires.now c.over.new.wires in
    subst (λ (es : List EndpointParts). IsAnswered w es generated_query 15 c.over.result) c.in-Ok.ensures c.over.ensures.answered

pub returns-in-Err-clause-wired : goal.returns-in-Err-clause-wired
returns-in-Err-clause-wired g c = after_itself (map g.W.Wire.seen c.args.wires.now)
