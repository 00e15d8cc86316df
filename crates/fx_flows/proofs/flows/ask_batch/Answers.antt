use Rattle.std.proofs.Common.{refl, subst}
use Rattle.fx_bound.specs.Parts.{Parts}
use Rattle.fx_flows.specs.Flows.{AskedBatch, rows_in}
use Rattle.fx_flows.proofs.AskLemmas.{unasked}
use Rattle.fx_flows.proofs.flows.ask_batch.Goals as goal

pub returns-in-Err : goal.returns-in-Err
returns-in-Err g c =
    let see = g.W.Wire.seen c.args.wire.now in
    unasked g.W.Wire.counts_alone see see c.args.endpoints.now (record { unit = c.args.unit.now; rows = c.args.rows.now }) refl

pub returns-in-Ok : goal.returns-in-Ok
returns-in-Ok g c =
    let see = g.W.Wire.seen in
    subst (λ (p : Parts). AskedBatch g.W.Wire.counts_alone (see c.args.wire.now) (see c.ask_for.new.wire) c.args.endpoints.now p (rows_in c.ask_for.result)) c.in-Ok.ensures.parts c.ask_for.ensures

pub ask_for-requires-clause-sendable : goal.ask_for-requires-clause-sendable
ask_for-requires-clause-sendable g c = c.requires.sendable
