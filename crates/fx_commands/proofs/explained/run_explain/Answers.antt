use Rattle.std.proofs.Common.{◌∙◌, sym, subst, refl, Ok, Err, inl, map}
use Rattle.fx_algebra.specs.declared.queries.Query.{Query}
use Rattle.fx_outside.proofs.CountLemmas.{stayed_both}
use Rattle.fx_pool.proofs.WireLemmas.{after_itself}
use Rattle.fx_traffic.specs.Gains.{wires_seen}
use Rattle.fx_local.specs.Counts.{CountsOnly}
use Rattle.fx_local.specs.Files.{file_read}
use Rattle.fx_local.specs.LocalSteps.{GivesQuery, query_line}
use Rattle.fx_local.specs.RegistryFiles.{registry_line}
use Rattle.fx_commands.specs.Explain.{IsExplainReported, IsExplanation}
use Rattle.fx_local.specs.RefusalStatuses.{query_status, registry_status}
use Rattle.fx_local.specs.Sinks.{sink_written}
use Rattle.fx_local.specs.declared.statuses.Status.{Status}
use Rattle.fx_local.specs.declared.statuses.Status.TheVariants as status
use Rattle.fx_local.proofs.CountLemmas.{only_later, only_read}
use Rattle.fx_commands.proofs.QueryLemmas.{cut_so, query_not_cut, query_not_done, query_refused_before, query_since, query_wrote, registry_not_cut, registry_not_done, registry_refused_before, registry_wrote, wrote_so}
use Rattle.fx_commands.proofs.ExplainLemmas.{an_explanation, explain_cut, explain_done, plan_explained}
use Rattle.fx_commands.proofs.FaultLemmas.{counts_left}
use Rattle.fx_commands.proofs.explained.run_explain.Goals as goal

pub returns-in-Err-clause-reported : goal.returns-in-Err-clause-reported
returns-in-Err-clause-reported g c =
    let w = wires_seen g.W.Wire.tells_log g.W.Wire.counts_alone g.W.Wire.seen c.args.wires.now c.args.wires.now in
    let read = file_read (g.F.Files.seen c.args.files.now) (g.F.Files.seen c.load_registry.new.files) in
    let registry = read c.args.registry.now in
    let query = read c.args.query.now in
    let text = registry_line c.in-Err.refusal c.args.registry.now in (
      text,
      subst (λ (s : Status). IsExplainReported w registry query s text) (sym c.status.ensures) (inl (refl, registry_refused_before registry query c.in-Err.refusal c.in-Err.ensures.outcome)),
      c.write_registry_refusal.ensures,
    )

pub returns-in-Err-load_query-clause-reported : goal.returns-in-Err-load_query-clause-reported
returns-in-Err-load_query-clause-reported g c =
    let w = wires_seen g.W.Wire.tells_log g.W.Wire.counts_alone g.W.Wire.seen c.args.wires.now c.args.wires.now in
    let read = file_read (g.F.Files.seen c.args.files.now) (g.F.Files.seen c.load_query.new.files) in
    let registry = read c.args.registry.now in
    let query = read c.args.query.now in
    let text = query_line c.in-Err-load_query.refusal c.args.query.now in
    let since = query_since c.args.query.now _ _ ((g.F.Files.seen c.args.files.now).faults c.args.query.now) ((g.F.Files.seen c.load_registry.new.files).faults c.args.query.now) ((g.F.Files.seen c.load_query.new.files).faults c.args.query.now) (Err c.in-Err-load_query.refusal) (c.load_registry.ensures.same c.args.query.now) (c.load_registry.ensures.kept c.args.query.now) c.in-Err-load_query.ensures.outcome in (
      text,
      subst (λ (s : Status). IsExplainReported w registry query s text) (sym c.status-in-Err-load_query.ensures) (inl (refl, query_refused_before registry query _ c.in-Err-load_query.refusal c.in-Ok.ensures.outcome since)),
      c.write_query_refusal.ensures,
    )

pub returns-clause-reported : goal.returns-clause-reported
returns-clause-reported g c =
    let w = wires_seen g.W.Wire.tells_log g.W.Wire.counts_alone g.W.Wire.seen c.args.wires.now c.explain_members.new.wires in
    let read = file_read (g.F.Files.seen c.args.files.now) (g.F.Files.seen c.load_query.new.files) in
    let registry = read c.args.registry.now in
    let query = read c.args.query.now in
    let told = c.explain_members.ensures.reported in
    let since = query_since c.args.query.now _ _ ((g.F.Files.seen c.args.files.now).faults c.args.query.now) ((g.F.Files.seen c.load_registry.new.files).faults c.args.query.now) ((g.F.Files.seen c.load_query.new.files).faults c.args.query.now) (Ok c.in-Ok-load_query.asked) (c.load_registry.ensures.same c.args.query.now) (c.load_registry.ensures.kept c.args.query.now) c.in-Ok-load_query.ensures.outcome in (
      told.0,
      plan_explained w registry query _ c.get.result.now c.explain_members.result told.0 c.in-Ok.ensures.outcome (subst (λ (q : Query). GivesQuery query (Ok q)) (sym c.get.ensures) since) told.1,
      told.2,
    )

pub returns-in-Err-clause-written : goal.returns-in-Err-clause-written
returns-in-Err-clause-written g c = λ told.
    let read = file_read (g.F.Files.seen c.args.files.now) (g.F.Files.seen c.load_registry.new.files) in
    registry_wrote (IsExplanation (map g.W.Wire.seen c.args.wires.now) (read c.args.registry.now) (read c.args.query.now)) c.in-Err.refusal _ _ c.status.ensures

pub returns-in-Err-load_query-clause-written : goal.returns-in-Err-load_query-clause-written
returns-in-Err-load_query-clause-written g c = λ told.
    let read = file_read (g.F.Files.seen c.args.files.now) (g.F.Files.seen c.load_query.new.files) in
    query_wrote (IsExplanation (map g.W.Wire.seen c.args.wires.now) (read c.args.registry.now) (read c.args.query.now)) c.in-Err-load_query.refusal _ _ c.status-in-Err-load_query.ensures

pub returns-clause-written : goal.returns-clause-written
returns-clause-written g c = λ told.
    let read = file_read (g.F.Files.seen c.args.files.now) (g.F.Files.seen c.load_query.new.files) in
    let registry = read c.args.registry.now in
    let query = read c.args.query.now in
    let since = query_since c.args.query.now _ _ ((g.F.Files.seen c.args.files.now).faults c.args.query.now) ((g.F.Files.seen c.load_registry.new.files).faults c.args.query.now) ((g.F.Files.seen c.load_query.new.files).faults c.args.query.now) (Ok c.in-Ok-load_query.asked) (c.load_registry.ensures.same c.args.query.now) (c.load_registry.ensures.kept c.args.query.now) c.in-Ok-load_query.ensures.outcome in
    wrote_so _ _ (λ text k. an_explanation (map g.W.Wire.seen c.args.wires.now) registry query _ c.get.result.now text c.in-Ok.ensures.outcome (subst (λ (q : Query). GivesQuery query (Ok q)) (sym c.get.ensures) since) k) c.explain_members.result _ _ (c.explain_members.ensures.written told)

pub returns-in-Err-clause-done : goal.returns-in-Err-clause-done
returns-in-Err-clause-done g c = λ done. absurd (registry_not_done c.in-Err.refusal (sym c.status.ensures ∙ done))

pub returns-in-Err-load_query-clause-done : goal.returns-in-Err-load_query-clause-done
returns-in-Err-load_query-clause-done g c = λ done. absurd (query_not_done c.in-Err-load_query.refusal (sym c.status-in-Err-load_query.ensures ∙ done))

pub returns-clause-done : goal.returns-clause-done
returns-clause-done g c = λ done.
    let w = wires_seen g.W.Wire.tells_log g.W.Wire.counts_alone g.W.Wire.seen c.args.wires.now c.explain_members.new.wires in
    let read = file_read (g.F.Files.seen c.args.files.now) (g.F.Files.seen c.load_query.new.files) in
    let registry = read c.args.registry.now in
    let query = read c.args.query.now in
    let since = query_since c.args.query.now _ _ ((g.F.Files.seen c.args.files.now).faults c.args.query.now) ((g.F.Files.seen c.load_registry.new.files).faults c.args.query.now) ((g.F.Files.seen c.load_query.new.files).faults c.args.query.now) (Ok c.in-Ok-load_query.asked) (c.load_registry.ensures.same c.args.query.now) (c.load_registry.ensures.kept c.args.query.now) c.in-Ok-load_query.ensures.outcome in
    let out = sink_written g.O.Ends.tells_held g.O.Ends.held g.O.Ends.write_faults c.args.out.now c.explain_members.new.out in
    let err = sink_written g.E.Ends.tells_held g.E.Ends.held g.E.Ends.write_faults c.args.err.now c.explain_members.new.err in
    explain_done w registry query _ c.get.result.now out err c.in-Ok.ensures.outcome (subst (λ (q : Query). GivesQuery query (Ok q)) (sym c.get.ensures) since) (c.explain_members.ensures.done done)

pub returns-in-Err-clause-endpoint_faults : goal.returns-in-Err-clause-endpoint_faults
returns-in-Err-clause-endpoint_faults g c = λ alone done. absurd (registry_not_done c.in-Err.refusal (sym c.status.ensures ∙ done))

pub returns-in-Err-load_query-clause-endpoint_faults : goal.returns-in-Err-load_query-clause-endpoint_faults
returns-in-Err-load_query-clause-endpoint_faults g c = λ alone done. absurd (query_not_done c.in-Err-load_query.refusal (sym c.status-in-Err-load_query.ensures ∙ done))

pub returns-clause-endpoint_faults : goal.returns-clause-endpoint_faults
returns-clause-endpoint_faults g c = λ alone done.
    let w = wires_seen g.W.Wire.tells_log g.W.Wire.counts_alone g.W.Wire.seen c.args.wires.now c.explain_members.new.wires in
    let read = file_read (g.F.Files.seen c.args.files.now) (g.F.Files.seen c.load_query.new.files) in
    let registry = read c.args.registry.now in
    let query = read c.args.query.now in
    let since = query_since c.args.query.now _ _ ((g.F.Files.seen c.args.files.now).faults c.args.query.now) ((g.F.Files.seen c.load_registry.new.files).faults c.args.query.now) ((g.F.Files.seen c.load_query.new.files).faults c.args.query.now) (Ok c.in-Ok-load_query.asked) (c.load_registry.ensures.same c.args.query.now) (c.load_registry.ensures.kept c.args.query.now) c.in-Ok-load_query.ensures.outcome in
    let out = sink_written g.O.Ends.tells_held g.O.Ends.held g.O.Ends.write_faults c.args.out.now c.explain_members.new.out in
    let err = sink_written g.E.Ends.tells_held g.E.Ends.held g.E.Ends.write_faults c.args.err.now c.explain_members.new.err in
    counts_left w registry query out err (explain_done w registry query _ c.get.result.now out err c.in-Ok.ensures.outcome (subst (λ (q : Query). GivesQuery query (Ok q)) (sym c.get.ensures) since) (c.explain_members.ensures.done done)) alone

pub returns-clause-write_fault : goal.returns-clause-write_fault
returns-clause-write_fault g c = λ cut.
    let read = file_read (g.F.Files.seen c.args.files.now) (g.F.Files.seen c.load_query.new.files) in
    let registry = read c.args.registry.now in
    let query = read c.args.query.now in
    let since = query_since c.args.query.now _ _ ((g.F.Files.seen c.args.files.now).faults c.args.query.now) ((g.F.Files.seen c.load_registry.new.files).faults c.args.query.now) ((g.F.Files.seen c.load_query.new.files).faults c.args.query.now) (Ok c.in-Ok-load_query.asked) (c.load_registry.ensures.same c.args.query.now) (c.load_registry.ensures.kept c.args.query.now) c.in-Ok-load_query.ensures.outcome in
    cut_so _ _ (λ text k. an_explanation (map g.W.Wire.seen c.args.wires.now) registry query _ c.get.result.now text c.in-Ok.ensures.outcome (subst (λ (q : Query). GivesQuery query (Ok q)) (sym c.get.ensures) since) k) _ _ (c.explain_members.ensures.write_fault cut)

pub returns-in-Err-clause-cut : goal.returns-in-Err-clause-cut
returns-in-Err-clause-cut g c = λ cut. absurd (registry_not_cut c.in-Err.refusal (sym c.status.ensures ∙ cut))

pub returns-in-Err-load_query-clause-cut : goal.returns-in-Err-load_query-clause-cut
returns-in-Err-load_query-clause-cut g c = λ cut. absurd (query_not_cut c.in-Err-load_query.refusal (sym c.status-in-Err-load_query.ensures ∙ cut))

pub returns-clause-cut : goal.returns-clause-cut
returns-clause-cut g c = λ cut.
    let w = wires_seen g.W.Wire.tells_log g.W.Wire.counts_alone g.W.Wire.seen c.args.wires.now c.explain_members.new.wires in
    let read = file_read (g.F.Files.seen c.args.files.now) (g.F.Files.seen c.load_query.new.files) in
    let registry = read c.args.registry.now in
    let query = read c.args.query.now in
    let since = query_since c.args.query.now _ _ ((g.F.Files.seen c.args.files.now).faults c.args.query.now) ((g.F.Files.seen c.load_registry.new.files).faults c.args.query.now) ((g.F.Files.seen c.load_query.new.files).faults c.args.query.now) (Ok c.in-Ok-load_query.asked) (c.load_registry.ensures.same c.args.query.now) (c.load_registry.ensures.kept c.args.query.now) c.in-Ok-load_query.ensures.outcome in
    let out = sink_written g.O.Ends.tells_held g.O.Ends.held g.O.Ends.write_faults c.args.out.now c.explain_members.new.out in
    explain_cut w registry query _ c.get.result.now out c.in-Ok.ensures.outcome (subst (λ (q : Query). GivesQuery query (Ok q)) (sym c.get.ensures) since) (c.explain_members.ensures.cut cut)

pub returns-in-Err-clause-read_faults : goal.returns-in-Err-clause-read_faults
returns-in-Err-clause-read_faults g c =
    let before = (g.F.Files.seen c.args.files.now).faults in
    let after = (g.F.Files.seen c.load_registry.new.files).faults in
    subst (λ (s : Status). CountsOnly status.ReadFault s before after) (sym c.status.ensures) (only_read c.args.registry.now (registry_status c.in-Err.refusal) before after c.in-Err.ensures.counted)

pub returns-in-Err-load_query-clause-read_faults : goal.returns-in-Err-load_query-clause-read_faults
returns-in-Err-load_query-clause-read_faults g c =
    let before = (g.F.Files.seen c.args.files.now).faults in
    let mid = (g.F.Files.seen c.load_registry.new.files).faults in
    let after = (g.F.Files.seen c.load_query.new.files).faults in
    subst (λ (s : Status). CountsOnly status.ReadFault s before after) (sym c.status-in-Err-load_query.ensures)
    (only_later status.ReadFault (query_status c.in-Err-load_query.refusal) before mid after c.in-Ok.ensures.counted (only_read c.args.query.now (query_status c.in-Err-load_query.refusal) mid after c.in-Err-load_query.ensures.counted))

pub returns-clause-read_faults : goal.returns-clause-read_faults
returns-clause-read_faults g c = inl (stayed_both (g.F.Files.seen c.args.files.now).faults (g.F.Files.seen c.load_registry.new.files).faults (g.F.Files.seen c.load_query.new.files).faults c.in-Ok.ensures.counted c.in-Ok-load_query.ensures.counted)

pub returns-in-Err-clause-wired : goal.returns-in-Err-clause-wired
returns-in-Err-clause-wired g c = after_itself (map g.W.Wire.seen c.args.wires.now)

pub returns-in-Err-load_query-clause-wired : goal.returns-in-Err-load_query-clause-wired
returns-in-Err-load_query-clause-wired g c = after_itself (map g.W.Wire.seen c.args.wires.now)
