use Rattle.std.proofs.Common.{◌≡◌, ◌∙◌, List, subst, sym}
use Rattle.fx_outside.specs.Endpoints.{EndpointParts}
use Rattle.fx_plan.specs.Explained.{explained}
use Rattle.fx_traffic.specs.Gains.{wires_seen}
use Rattle.fx_commands.specs.Explain.{IsPlanCut, IsPlanWritten}
use Rattle.fx_commands.specs.FedRefusals.{IsGivenEnd, fed_line}
use Rattle.fx_lines.specs.MemberLines.{plan_lines}
use Rattle.fx_local.specs.Sinks.{sink_written}
use Rattle.fx_commands.proofs.QueryLemmas.{cut_so, fed_not_cut, fed_not_done, front_cut, refused_wrote, wrote_so}
use Rattle.fx_commands.proofs.ExplainLemmas.{plan_cut, plan_done, plan_given, plan_refused, plan_text}
use Rattle.fx_commands.proofs.explained.explain_members.Goals as goal

pub returns-in-Ok-clause-reported : goal.returns-in-Ok-clause-reported
returns-in-Ok-clause-reported g c =
    let w = wires_seen g.W.Wire.tells_log g.W.Wire.counts_alone g.W.Wire.seen c.args.wires.now c.plan.new.wires in
    let told = c.write_plan.ensures.reported in
    let end = subst (λ (es : List EndpointParts). IsGivenEnd (plan_lines es c.in-Ok.plan) c.write_plan.result told.0) c.endpoints-endpoints.ensures.value told.1 in
    (told.0, plan_given w c.args.members.now c.args.query.now c.in-Ok.plan c.write_plan.result told.0 c.endpoints-endpoints.ensures.valid c.in-Ok.ensures.planned end, told.2)

pub returns-in-Err-clause-reported : goal.returns-in-Err-clause-reported
returns-in-Err-clause-reported g c =
    let w = wires_seen g.W.Wire.tells_log g.W.Wire.counts_alone g.W.Wire.seen c.args.wires.now c.plan.new.wires in
    (fed_line c.in-Err.error, plan_refused w c.args.members.now c.args.query.now c.in-Err.error c.fed_status.result c.endpoints-endpoints.ensures.valid c.fed_status.ensures c.in-Err.ensures.planned, c.write_fed_error.ensures)

pub returns-in-Ok-clause-written : goal.returns-in-Ok-clause-written
returns-in-Ok-clause-written g c = λ told.
    let w = wires_seen g.W.Wire.tells_log g.W.Wire.counts_alone g.W.Wire.seen c.args.wires.now c.plan.new.wires in
    wrote_so _ _
    (λ text is. plan_text w c.args.members.now c.args.query.now c.in-Ok.plan text c.endpoints-endpoints.ensures.valid c.in-Ok.ensures.planned (subst (λ (es : List EndpointParts). text ≡ explained c.in-Ok.plan.parts.items es) c.endpoints-endpoints.ensures.value is))
    c.write_plan.result _ _ (c.write_plan.ensures.written told)

pub returns-in-Err-clause-written : goal.returns-in-Err-clause-written
returns-in-Err-clause-written g c = λ told. refused_wrote _ c.in-Err.error _ _ c.fed_status.ensures

pub returns-in-Ok-clause-done : goal.returns-in-Ok-clause-done
returns-in-Ok-clause-done g c = λ done.
    let w = wires_seen g.W.Wire.tells_log g.W.Wire.counts_alone g.W.Wire.seen c.args.wires.now c.plan.new.wires in
    let out = sink_written g.O.Ends.tells_held g.O.Ends.held g.O.Ends.write_faults c.args.out.now c.write_plan.new.out in
    let err = sink_written g.E.Ends.tells_held g.E.Ends.held g.E.Ends.write_faults c.args.err.now c.write_plan.new.err in
    let wrote = subst (λ (es : List EndpointParts). IsPlanWritten es c.in-Ok.plan out err) c.endpoints-endpoints.ensures.value (c.write_plan.ensures.done done) in
    plan_done w c.args.members.now c.args.query.now c.in-Ok.plan out err c.endpoints-endpoints.ensures.valid c.in-Ok.ensures.planned wrote

pub returns-in-Err-clause-done : goal.returns-in-Err-clause-done
returns-in-Err-clause-done g c = λ done. absurd (fed_not_done c.in-Err.error (sym c.fed_status.ensures ∙ done))

pub returns-in-Ok-clause-write_fault : goal.returns-in-Ok-clause-write_fault
returns-in-Ok-clause-write_fault g c = λ cut.
    let w = wires_seen g.W.Wire.tells_log g.W.Wire.counts_alone g.W.Wire.seen c.args.wires.now c.plan.new.wires in
    cut_so _ _
    (λ text is. plan_text w c.args.members.now c.args.query.now c.in-Ok.plan text c.endpoints-endpoints.ensures.valid c.in-Ok.ensures.planned (subst (λ (es : List EndpointParts). text ≡ explained c.in-Ok.plan.parts.items es) c.endpoints-endpoints.ensures.value is))
    _ _ (c.write_plan.ensures.write_fault cut)

pub returns-in-Err-clause-write_fault : goal.returns-in-Err-clause-write_fault
returns-in-Err-clause-write_fault g c = λ cut. absurd (fed_not_cut c.in-Err.error (sym c.fed_status.ensures ∙ cut))

pub returns-in-Ok-clause-cut : goal.returns-in-Ok-clause-cut
returns-in-Ok-clause-cut g c = λ cut.
    let w = wires_seen g.W.Wire.tells_log g.W.Wire.counts_alone g.W.Wire.seen c.args.wires.now c.plan.new.wires in
    let out = sink_written g.O.Ends.tells_held g.O.Ends.held g.O.Ends.write_faults c.args.out.now c.write_plan.new.out in
    plan_cut w c.args.members.now c.args.query.now c.in-Ok.plan out c.endpoints-endpoints.ensures.valid c.in-Ok.ensures.planned
    (subst (λ (es : List EndpointParts). IsPlanCut es c.in-Ok.plan out) c.endpoints-endpoints.ensures.value (λ told. front_cut _ c.write_plan.result _ _ cut (c.write_plan.ensures.written told)))

pub returns-in-Err-clause-cut : goal.returns-in-Err-clause-cut
returns-in-Err-clause-cut g c = λ cut. absurd (fed_not_cut c.in-Err.error (sym c.fed_status.ensures ∙ cut))
