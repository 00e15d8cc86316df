use Rattle.std.proofs.Common.{◌≡◌, ◌∙◌, ap, sym, subst, Some, None}
use Rattle.std.specs.Prelude.{IfOk}
use Rattle.fx_algebra.specs.Answers.{answer, no_graphs}
use Rattle.fx_algebra.specs.declared.answers.Answer.{Answer}
use Rattle.fx_evaluation.specs.FirstHere.{first_here, IsCause}
use Rattle.fx_evaluation.specs.declared.answering.MemberError.TheVariants.{ServiceHere}
use Rattle.fx_results.specs.Documents.{document as document_of}
use Rattle.fx_local.specs.Services.{all_numbers}
use Rattle.fx_local.proofs.ServiceLemmas.{none_here}
use Rattle.fx_local.proofs.local.document.Goals as goal

pub returns-in-Ok : goal.returns-in-Ok
returns-in-Ok c =
    let q = c.args.query.now in
    let graph = c.args.store.now in
    let same : c.in-Ok.answer ≡ answer q graph no_graphs (all_numbers c.args.occurrences.now) = c.in-Ok.ensures.answer no_graphs ∙ ap (answer q graph no_graphs) (c.as_slice.ensures.value ∙ c.in_ok-down.ensures) in
    subst (λ (a : Answer). IfOk c.write.result (λ text. text.items ≡ document_of a)) same c.write.ensures.document

pub unreachable-requires : goal.unreachable-requires
unreachable-requires c =
    let q = c.args.query.now in
    let down = c.as_slice.result.now in
    let cause : IsCause q down (ServiceHere c.in-Err-ServiceHere.field-0-0) = subst (IsCause q down) c.in-Err-ServiceHere.field-0-is c.in-Err-ServiceHere.ensures.cause in
    let none : first_here q down ≡ None = ap (first_here q) (c.as_slice.ensures.value ∙ c.in_ok-down.ensures ∙ ap all_numbers c.requires) ∙ none_here q in
    let clash : Some c.in-Err-ServiceHere.field-0-0 ≡ None = sym cause ∙ none in
    cc
