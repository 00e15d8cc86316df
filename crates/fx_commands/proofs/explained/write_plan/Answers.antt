use Rattle.std.proofs.Common.{◌≡◌, ◌∙◌, subst, List, ℕ}
use Rattle.fx_commands.specs.FedRefusals.{IsGivenEnd}
use Rattle.fx_local.specs.Sinks.{Wrote}
use Rattle.fx_commands.proofs.QueryLemmas.{cut_so, document_done, lines_done, lines_given, wrote_given}
use Rattle.fx_commands.proofs.explained.write_plan.Goals as goal

pub returns-in-Ok-clause-reported : goal.returns-in-Ok-clause-reported
returns-in-Ok-clause-reported g c =
    let told = c.write_report.ensures.reported in
    (told.0, subst (λ (l : List ℕ). IsGivenEnd l c.write_report.result told.0) c.in-Ok.ensures.1 (lines_given c.in-Ok.report.lines.items c.write_report.result told.0 told.1), told.2)

pub returns-in-Ok-clause-written : goal.returns-in-Ok-clause-written
returns-in-Ok-clause-written g c = λ told. subst (λ (d : List ℕ). Wrote (λ text. text ≡ d) c.write_report.result (g.O.Ends.held c.args.out.now) (g.O.Ends.held c.write_report.new.out)) c.in-Ok.ensures.0 (wrote_given c.in-Ok.report.document.items c.write_report.result _ _ (c.write_report.ensures.written told))

pub returns-in-Ok-clause-done : goal.returns-in-Ok-clause-done
returns-in-Ok-clause-done g c = λ done. (
  λ told. document_done _ c.in-Ok.report.document.items c.write_report.result _ _ c.in-Ok.ensures.0 done (c.write_report.ensures.written told),
  λ told. lines_done _ c.in-Ok.report.lines.items _ _ c.in-Ok.ensures.1 (c.write_report.ensures.lines done told),
)

pub returns-in-Ok-clause-write_fault : goal.returns-in-Ok-clause-write_fault
returns-in-Ok-clause-write_fault g c = λ cut. cut_so _ _ (λ text is. is ∙ c.in-Ok.ensures.0) _ _ (c.write_report.ensures.write_fault cut)
