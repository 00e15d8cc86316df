use Rattle.std.proofs.Common.{◌∙◌, ap, List, subst, sym, IsPermutation}
use Rattle.std.proofs.lemmas.List.Sorted.{IsPermutation-refl}
use Rattle.fx_algebra.specs.Evaluation.{extended}
use Rattle.fx_algebra.specs.Solutions.{Bindings}
use Rattle.fx_evaluation.proofs.RunLemmas.{scanned}
use Rattle.fx_evaluation.proofs.runs.with_pattern.Goals as goal

pub returns-then-is_scanned : goal.returns-then-is_scanned
returns-then-is_scanned c =
    scanned c.args.store.now c.args.rows.items c.in_ok-found.found.items c.in_ok-more.more.items c.args.pattern (rw c.as_slice-then-is_scanned.ensures.value at c.known_to_rise.ensures) c.in_ok-found.ensures
    (rw c.as_slice-then-is_scanned-2.ensures.value at c.in_ok-more.ensures)

pub returns : goal.returns
returns c =
    let rows = extended c.args.store.now c.args.pattern c.args.rows.items in
    subst (λ (v : List Bindings). IsPermutation rows v) (sym (c.in_ok-more-2.ensures ∙ ap (extended c.args.store.now c.args.pattern) c.as_slice-2.ensures.value)) (IsPermutation-refl rows)
