use Rattle.std.proofs.Common.{◌∙◌, ap, subst, List, All, IsTrue}
use Rattle.fx_algebra.specs.Answers.{form_answer}
use Rattle.fx_algebra.specs.Solutions.{Bindings, rises}
use Rattle.fx_engine.proofs.AnsweredLemmas.{from_rows}
use Rattle.fx_engine.proofs.answers.answer_from.Goals as goal

pub returns-clause-given : goal.returns-clause-given
returns-clause-given c =
    let q = c.args.query.now in
    from_rows q c.args.rows.items c.in_ok-all.all.items _ c.in_ok-all.ensures
    (subst (λ (rows : List Bindings). All (λ s. IsTrue (rises s)) rows) c.as_slice.ensures.value c.known_to_rise.ensures)
    (c.in_ok-answer_of_rows.ensures ∙ ap (form_answer q q.form) c.as_slice-2.ensures.value)
