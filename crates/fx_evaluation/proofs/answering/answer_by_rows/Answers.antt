use Rattle.std.proofs.Common.{◌∙◌, ap, subst, List, All, IsTrue}
use Rattle.fx_algebra.specs.Answers.{form_answer}
use Rattle.fx_algebra.specs.Solutions.{Bindings, rises}
use Rattle.fx_evaluation.proofs.FormLemmas.{answer_of_rows}
use Rattle.fx_evaluation.proofs.answering.answer_by_rows.Goals as goal

pub returns : goal.returns
returns c =
    let q = c.args.query.now in
    let all = c.in_ok-rows.rows.items in
    answer_of_rows q c.args.store.now c.in_ok-found.found.items all c.in_ok-answer.answer c.one_answer.ensures c.in_ok-found.ensures c.in_ok-rows.ensures
    (subst (λ (rows : List Bindings). All (λ s. IsTrue (rises s)) rows) c.as_slice.ensures.value c.known_to_rise.ensures)
    (c.in_ok-answer.ensures ∙ ap (form_answer q q.form) c.as_slice-2.ensures.value)
