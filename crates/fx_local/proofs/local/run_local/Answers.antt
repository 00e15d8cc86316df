use Rattle.std.proofs.Common.{sym, subst, inl}
use Rattle.fx_local.specs.Counts.{CountsOnly}
use Rattle.fx_local.specs.declared.statuses.Status.TheVariants as status
use Rattle.fx_local.specs.declared.statuses.Status.{Status}
use Rattle.fx_local.specs.Files.{file_read}
use Rattle.fx_local.specs.Local.{IsReported}
use Rattle.fx_local.specs.LocalSteps.{refusal_line}
use Rattle.fx_local.proofs.LocalReportLemmas.{cut_short, reported, lines_reported, document_written}
use Rattle.fx_local.proofs.local.run_local.Goals as goal

pub returns-in-Err-clause-reported : goal.returns-in-Err-clause-reported
returns-in-Err-clause-reported g c =
    let read = file_read (g.F.Files.seen c.args.files.now) (g.F.Files.seen c.local.new.files) in
    let graph = c.args.graph.now in
    let query = c.args.query.now in (
      refusal_line c.in-Err.refusal graph query,
      subst (λ (s : Status). IsReported (read graph) (read query) s (refusal_line c.in-Err.refusal graph query)) (sym c.status.ensures) (reported (read graph) (read query) c.in-Err.refusal c.in-Err.ensures.outcome),
      c.write_refusal.ensures,
    )

pub returns-in-Ok-clause-reported : goal.returns-in-Ok-clause-reported
returns-in-Ok-clause-reported g c =
    let read = file_read (g.F.Files.seen c.args.files.now) (g.F.Files.seen c.local.new.files) in
    let text = c.write_report.ensures.reported.0 in (
      text,
      lines_reported (read c.args.graph.now) (read c.args.query.now) c.in-Ok.report c.write_report.result text c.in-Ok.ensures.outcome c.write_report.ensures.reported.1,
      c.write_report.ensures.reported.2,
    )

pub returns-in-Ok-clause-written : goal.returns-in-Ok-clause-written
returns-in-Ok-clause-written g c =
    let read = file_read (g.F.Files.seen c.args.files.now) (g.F.Files.seen c.local.new.files) in
    λ told. document_written (read c.args.graph.now) (read c.args.query.now) c.in-Ok.report c.write_report.result _ _ c.in-Ok.ensures.outcome (c.write_report.ensures.written told)

pub returns-in-Ok-clause-write_fault : goal.returns-in-Ok-clause-write_fault
returns-in-Ok-clause-write_fault g c =
    let read = file_read (g.F.Files.seen c.args.files.now) (g.F.Files.seen c.local.new.files) in
    λ is. cut_short (read c.args.graph.now) (read c.args.query.now) c.in-Ok.report _ _ c.in-Ok.ensures.outcome (c.write_report.ensures.write_fault is)

pub returns-in-Err-clause-read_faults : goal.returns-in-Err-clause-read_faults
returns-in-Err-clause-read_faults g c =
    subst (λ (s : Status). CountsOnly status.ReadFault s (g.F.Files.seen c.args.files.now).faults (g.F.Files.seen c.local.new.files).faults) (sym c.status.ensures) c.in-Err.ensures.counted

pub returns-in-Ok-clause-read_faults : goal.returns-in-Ok-clause-read_faults
returns-in-Ok-clause-read_faults g c = inl c.in-Ok.ensures.counted
