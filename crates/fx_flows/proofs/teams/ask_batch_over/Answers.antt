use Rattle.std.proofs.Common.{map, subst}
use Rattle.fx_bound.specs.Parts.{Parts}
use Rattle.fx_flows.specs.Flows.{rows_in}
use Rattle.fx_flows.specs.Teams.{BatchAsked}
use Rattle.fx_flows.proofs.TeamLemmas.{batch_unasked}
use Rattle.fx_flows.proofs.teams.ask_batch_over.Goals as goal

pub returns-in-Err : goal.returns-in-Err
returns-in-Err g c = batch_unasked g.W.Wire.tells_log g.W.Wire.counts_alone (map g.W.Wire.seen c.args.wires.now) c.args.endpoints.now (record { unit = c.args.unit.now; rows = c.args.rows.now })

pub returns-in-Ok : goal.returns-in-Ok
returns-in-Ok g c =
    subst (λ (p : Parts). BatchAsked g.W.Wire.tells_log g.W.Wire.counts_alone (map g.W.Wire.seen c.args.wires.now) (map g.W.Wire.seen c.ask_for_over.new.wires) c.args.endpoints.now p (rows_in c.ask_for_over.result)) c.in-Ok.ensures.parts c.ask_for_over.ensures
