use Rattle.std.proofs.Common.{◌∙◌, sym, subst, [], inl}
use Rattle.fx_local.specs.Counts.{CountsOnly}
use Rattle.fx_local.specs.Files.{file_read}
use Rattle.fx_local.specs.LocalSteps.{graph_line}
use Rattle.fx_local.specs.Serving.{IsMemberReported}
use Rattle.fx_local.specs.declared.statuses.Status.{Status}
use Rattle.fx_local.specs.RefusalStatuses.{graph_status}
use Rattle.fx_local.specs.declared.statuses.Status.TheVariants as status
use Rattle.fx_local.proofs.CountLemmas.{only_read}
use Rattle.fx_local.proofs.GainLemmas.{gains_alone}
use Rattle.fx_local.proofs.ServingLemmas.{graph_reported, no_graph_reported, refused_otherwise}
use Rattle.fx_local.proofs.serving.run_member.Goals as goal

pub returns-in-Err-clause-reported : goal.returns-in-Err-clause-reported
returns-in-Err-clause-reported g c =
    let read = file_read (g.F.Files.seen c.args.files.now) (g.F.Files.seen c.load_store.new.files) c.args.graph.now in
    let seen = g.D.Door.seen c.args.door.now in
    let last = graph_line c.in-Err.refusal c.args.graph.now in (
      [],
      last,
      subst (λ (s : Status). IsMemberReported read seen seen c.args.address.now c.args.count s [] last) (sym c.status.ensures) (no_graph_reported read seen c.args.address.now c.args.count c.in-Err.refusal c.in-Err.ensures.outcome),
      λ told. gains_alone _ _ _ _ last (c.write_graph_refusal.ensures told),
      λ is. absurd (refused_otherwise c.in-Err.refusal (sym c.status.ensures ∙ is)),
    )

pub returns-in-Ok-clause-reported : goal.returns-in-Ok-clause-reported
returns-in-Ok-clause-reported g c =
    let read = file_read (g.F.Files.seen c.args.files.now) (g.F.Files.seen c.load_store.new.files) c.args.graph.now in
    let given = c.serve_store.ensures.reported in (
      given.0,
      given.1,
      graph_reported read (g.D.Door.seen c.args.door.now) (g.D.Door.seen c.serve_store.new.door) c.args.address.now c.args.count _ c.serve_store.result given.0 given.1 c.in-Ok.ensures.outcome given.2,
      given.3,
      given.4,
    )

pub returns-in-Err-clause-read_faults : goal.returns-in-Err-clause-read_faults
returns-in-Err-clause-read_faults g c =
    let before = (g.F.Files.seen c.args.files.now).faults in
    let after = (g.F.Files.seen c.load_store.new.files).faults in
    subst (λ (s : Status). CountsOnly status.ReadFault s before after) (sym c.status.ensures) (only_read c.args.graph.now (graph_status c.in-Err.refusal) before after c.in-Err.ensures.counted)

pub returns-in-Ok-clause-read_faults : goal.returns-in-Ok-clause-read_faults
returns-in-Ok-clause-read_faults g c = inl c.in-Ok.ensures.counted
