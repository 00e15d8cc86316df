use Rattle.std.proofs.Common.{◌∙◌, List, subst, sym}
use Rattle.fx_outside.specs.Endpoints.{EndpointParts}
use Rattle.fx_traffic.specs.Gains.{wires_seen}
use Rattle.fx_commands.specs.FedRefusals.{IsGivenEnd, fed_line}
use Rattle.fx_lines.specs.MemberLines.{answer_lines}
use Rattle.fx_commands.specs.Query.{IsOutcomeWritten}
use Rattle.fx_local.specs.Sinks.{sink_written}
use Rattle.fx_commands.proofs.QueryLemmas.{cut_so, fed_not_cut, fed_not_done, front_cut, given_cut, given_done, given_reported, refusal_reported, refused_wrote, union_document, wrote_so}
use Rattle.fx_commands.proofs.FaultLemmas.{counts_down_by}
use Rattle.fx_commands.proofs.federated.answer_members.Goals as goal

pub returns-in-Ok-clause-reported : goal.returns-in-Ok-clause-reported
returns-in-Ok-clause-reported g c =
    let w = wires_seen g.W.Wire.tells_log g.W.Wire.counts_alone g.W.Wire.seen c.args.wires.now c.outcome.new.wires in
    let told = c.write_outcome.ensures.reported in
    let end = subst (λ (es : List EndpointParts). IsGivenEnd (answer_lines es c.in-Ok.all) c.write_outcome.result told.0) c.endpoints-endpoints.ensures.value told.1 in
    (told.0, given_reported w c.args.members.now c.args.query.now c.args.block c.in-Ok.all c.write_outcome.result told.0 c.endpoints-endpoints.ensures.valid c.in-Ok.ensures.answered end, told.2)

pub returns-in-Err-clause-reported : goal.returns-in-Err-clause-reported
returns-in-Err-clause-reported g c =
    let w = wires_seen g.W.Wire.tells_log g.W.Wire.counts_alone g.W.Wire.seen c.args.wires.now c.outcome.new.wires in
    (fed_line c.in-Err.error, refusal_reported w c.args.members.now c.args.query.now c.args.block c.in-Err.error c.fed_status.result c.endpoints-endpoints.ensures.valid c.fed_status.ensures c.in-Err.ensures.answered, c.write_fed_error.ensures)

pub returns-in-Ok-clause-written : goal.returns-in-Ok-clause-written
returns-in-Ok-clause-written g c = λ told.
    let w = wires_seen g.W.Wire.tells_log g.W.Wire.counts_alone g.W.Wire.seen c.args.wires.now c.outcome.new.wires in
    wrote_so _ _ (λ text is. union_document w c.args.members.now c.args.query.now c.args.block c.in-Ok.all text c.endpoints-endpoints.ensures.valid c.in-Ok.ensures.answered is) c.write_outcome.result _ _ (c.write_outcome.ensures.written told)

pub returns-in-Err-clause-written : goal.returns-in-Err-clause-written
returns-in-Err-clause-written g c = λ told. refused_wrote _ c.in-Err.error _ _ c.fed_status.ensures

pub returns-in-Ok-clause-done : goal.returns-in-Ok-clause-done
returns-in-Ok-clause-done g c = λ done.
    let w = wires_seen g.W.Wire.tells_log g.W.Wire.counts_alone g.W.Wire.seen c.args.wires.now c.outcome.new.wires in
    let out = sink_written g.O.Ends.tells_held g.O.Ends.held g.O.Ends.write_faults c.args.out.now c.write_outcome.new.out in
    let err = sink_written g.E.Ends.tells_held g.E.Ends.held g.E.Ends.write_faults c.args.err.now c.write_outcome.new.err in
    let wrote = subst (λ (es : List EndpointParts). IsOutcomeWritten es c.in-Ok.all out err) c.endpoints-endpoints.ensures.value (c.write_outcome.ensures.done done) in
    given_done w c.args.members.now c.args.query.now c.args.block c.in-Ok.all out err c.endpoints-endpoints.ensures.valid c.in-Ok.ensures.answered wrote

pub returns-in-Err-clause-done : goal.returns-in-Err-clause-done
returns-in-Err-clause-done g c = λ done. absurd (fed_not_done c.in-Err.error (sym c.fed_status.ensures ∙ done))

pub returns-in-Ok-clause-endpoint_faults : goal.returns-in-Ok-clause-endpoint_faults
returns-in-Ok-clause-endpoint_faults g c = λ alone done.
    let w = wires_seen g.W.Wire.tells_log g.W.Wire.counts_alone g.W.Wire.seen c.args.wires.now c.outcome.new.wires in
    let out = sink_written g.O.Ends.tells_held g.O.Ends.held g.O.Ends.write_faults c.args.out.now c.write_outcome.new.out in
    let err = sink_written g.E.Ends.tells_held g.E.Ends.held g.E.Ends.write_faults c.args.err.now c.write_outcome.new.err in
    let wrote = subst (λ (es : List EndpointParts). IsOutcomeWritten es c.in-Ok.all out err) c.endpoints-endpoints.ensures.value (c.write_outcome.ensures.done done) in
    counts_down_by w c.args.members.now c.args.query.now c.args.block out err (given_done w c.args.members.now c.args.query.now c.args.block c.in-Ok.all out err c.endpoints-endpoints.ensures.valid c.in-Ok.ensures.answered wrote) alone

pub returns-in-Err-clause-endpoint_faults : goal.returns-in-Err-clause-endpoint_faults
returns-in-Err-clause-endpoint_faults g c = λ alone done. absurd (fed_not_done c.in-Err.error (sym c.fed_status.ensures ∙ done))

pub returns-in-Ok-clause-write_fault : goal.returns-in-Ok-clause-write_fault
returns-in-Ok-clause-write_fault g c = λ cut.
    let w = wires_seen g.W.Wire.tells_log g.W.Wire.counts_alone g.W.Wire.seen c.args.wires.now c.outcome.new.wires in
    cut_so _ _ (λ text is. union_document w c.args.members.now c.args.query.now c.args.block c.in-Ok.all text c.endpoints-endpoints.ensures.valid c.in-Ok.ensures.answered is) _ _ (c.write_outcome.ensures.write_fault cut)

pub returns-in-Err-clause-write_fault : goal.returns-in-Err-clause-write_fault
returns-in-Err-clause-write_fault g c = λ cut. absurd (fed_not_cut c.in-Err.error (sym c.fed_status.ensures ∙ cut))

pub returns-in-Ok-clause-cut : goal.returns-in-Ok-clause-cut
returns-in-Ok-clause-cut g c = λ cut.
    let w = wires_seen g.W.Wire.tells_log g.W.Wire.counts_alone g.W.Wire.seen c.args.wires.now c.outcome.new.wires in
    let out = sink_written g.O.Ends.tells_held g.O.Ends.held g.O.Ends.write_faults c.args.out.now c.write_outcome.new.out in
    given_cut w c.args.members.now c.args.query.now c.args.block c.in-Ok.all out c.endpoints-endpoints.ensures.valid c.in-Ok.ensures.answered
    (λ told. front_cut _ c.write_outcome.result _ _ cut (c.write_outcome.ensures.written told))

pub returns-in-Err-clause-cut : goal.returns-in-Err-clause-cut
returns-in-Err-clause-cut g c = λ cut. absurd (fed_not_cut c.in-Err.error (sym c.fed_status.ensures ∙ cut))
