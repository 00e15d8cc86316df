use Rattle.std.proofs.Common.{◌∙◌, ap, List, Bool, arith}
use Rattle.fx_algebra.specs.Occurrences.{Occurrence}
use Rattle.fx_evaluation.specs.FirstHere.{first_false, first_up}
use Rattle.fx_evaluation.proofs.PlaceLemmas.{first_by_marks}
use Rattle.fx_evaluation.proofs.places.first_here.Goals as goal

pub returns : goal.returns
returns c =
    let found = c.in_ok-occurrences.occurrences.items in
    c.first_false-place.ensures
    ∙ ap (λ (marks : List Bool). first_false 0 marks) c.as_slice.ensures.value
    ∙ first_by_marks c.args.down.now found c.len.result c.in_ok-marks.marks.items (omega (arith, c.in_ok-occurrences.occurrences.ok.0, c.len.ensures)) c.in_ok-marks.ensures
    ∙ ap (λ (os : List Occurrence). first_up c.args.down.now 0 os) c.in_ok-occurrences.ensures
