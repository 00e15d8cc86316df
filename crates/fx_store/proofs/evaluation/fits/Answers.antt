use Rattle.std.proofs.Common.{sym, ap, ◌∙◌, ◌&&◌}
use Rattle.fx_store.specs.Lookups.{fits_subject, fits_predicate, fits_object}
use Rattle.fx_store.proofs.FitLemmas.{fits_is, third_test, failed_test}
use Rattle.fx_store.proofs.evaluation.fits.Goals as goal
use Rattle.fx_store.proofs.evaluation.fits.Goals.{then-fits_subject, else-fits_subject}

pub returns-then-fits_predicate : goal.returns-then-fits_predicate
returns-then-fits_predicate c =
    let p = c.args.pattern.now in
    let row = c.args.row.now in
    let t = c.args.triple.now in
    elim c.if-fits_subject.branch [
      | then-fits_subject w ↦
          c.fits_object.ensures
          ∙ third_test (fits_subject p row t) (fits_predicate p row t) (fits_object p row t) (sym c.fits_subject.ensures ∙ w.if-fits_subject.true) (sym w.fits_predicate.ensures ∙ sym w.value-is ∙ c.if-fits_predicate.true)
          ∙ sym (fits_is row p t)
      | else-fits_subject w ↦ let e = w.value-is in let f = c.if-fits_predicate.true in cc
    ]

pub returns-else-fits_predicate : goal.returns-else-fits_predicate
returns-else-fits_predicate c =
    let p = c.args.pattern.now in
    let row = c.args.row.now in
    let t = c.args.triple.now in
    elim c.if-fits_subject.branch [
      | then-fits_subject w ↦
          w.value-is
          ∙ w.fits_predicate.ensures
          ∙ failed_test (fits_subject p row t) (fits_predicate p row t) (fits_object p row t) (sym c.fits_subject.ensures ∙ w.if-fits_subject.true) (sym w.fits_predicate.ensures ∙ sym w.value-is ∙ c.if-fits_predicate.false)
          ∙ sym (fits_is row p t)
      | else-fits_subject w ↦
          w.value-is
          ∙ w.if-fits_subject.false
          ∙ ap (λ b. b && (fits_predicate p row t && fits_object p row t)) (sym w.if-fits_subject.false ∙ c.fits_subject.ensures)
          ∙ sym (fits_is row p t)
    ]
